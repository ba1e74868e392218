use Rattle.std.proofs.Common.{sym, ap, ◌∙◌, subst, inr, arith}
use Rattle.std.proofs.lemmas.List.{length-replicate}
use Rattle.rcu_map.proofs.map.Map.entry_at.Goals as goal

pub read_words-requires : goal.read_words-requires
read_words-requires g c =
    let r = c.requires in
    let small = g.met.E.Value.small in (
      omega (arith, small),
      (
        record { walking = r.walking; words = r.words; on = inr r.held; inside = r.inside },
        length-replicate g.row.W 0 ∙ sym c.kept_width.ensures,
      ),
    )

pub of_words-requires : goal.of_words-requires
of_words-requires g c =
    let r = c.requires in
    let small = g.met.E.Value.small in (
      omega (arith, small),
      subst g.E.Invariant.holds
          (sym (c.read_words.ensures.told r.words (inr r.held) r.whole r.is))
          (r.whole.entry (let is = r.is in omega (arith, is, r.keyed))),
    )

pub returns-clause-told : goal.returns-clause-told
returns-clause-told g c = λ words held whole is.
    c.of_words.ensures.told
    ∙ ap g.E.Value.decode (c.read_words.ensures.told words (inr held) whole is)
