-- Lemmas on comparing tags.
use Rattle.std.proofs.Common.{◌≡◌, ◌==◌, ap}
use Rattle.std.specs.Bool.{Decides}
use Rattle.std.proofs.lemmas.Bool.{and_parts}
use Rattle.std.proofs.lemmas.Bool.Decides.{Decides-eqb}
use Rattle.rcu_seq.specs.Tags.{same_tag}
use Rattle.rcu_seq.specs.declared.tag.Tag.{Tag}

pub equal_tags : (a b : Tag) → a.epoch ≡ b.epoch → a.number ≡ b.number → a ≡ b
equal_tags a b e f = rw (e, f)

pub same_tag-Decides : (a b : Tag) → Decides (same_tag a b) (a ≡ b)
same_tag-Decides a b = (
  λ e. let parts = and_parts (a.epoch == b.epoch) (a.number == b.number) e in
      equal_tags a b ((Decides-eqb a.epoch b.epoch).0 parts.0)
      ((Decides-eqb a.number b.number).0 parts.1),
  λ e. let epoch = (Decides-eqb a.epoch b.epoch).1 (ap (λ (t : Tag). t.epoch) e) in
      let number = (Decides-eqb a.number b.number).1 (ap (λ (t : Tag). t.number) e) in
      rw (epoch, number),
)
