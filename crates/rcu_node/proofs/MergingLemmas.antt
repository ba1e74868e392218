-- Merging is a join: lemmas for proofs about merged replicas.
use Rattle.std.proofs.Common.{◌≡◌, ℕ, ◌==◌, ◌&&◌, Bool, true, false, List, length, refl, sym, ap}
use Rattle.std.proofs.Common.{◌∙◌}
use Rattle.std.specs.Bool.{Decides}
use Rattle.std.proofs.Math.Bool.{and_assoc, and_comm, and_self}
use Rattle.std.proofs.lemmas.Bool.{and_parts}
use Rattle.std.proofs.lemmas.Bool.Decides.{Decides-eqb}
use Rattle.rcu_seq.specs.Tags.{same_tag}
use Rattle.rcu_seq.proofs.TagLemmas.{same_tag-Decides}
use Rattle.rcu_node.specs.CpuSet.{intersection, is_in}
use Rattle.rcu_node.specs.Merging.{IsAtLeast, Standing, are_alike, after_merge, same_set}
use Rattle.rcu_node.proofs.CpuSetLemmas.{is_in-intersection, length-intersection, same_from_flags}
use Rattle.rcu_node.proofs.CpuSetLemmas.{same_set-Decides}

intersection-commutes : (a b : List Bool) → length a ≡ length b
    → intersection a b ≡ intersection b a
intersection-commutes a b e =
    same_from_flags (intersection a b) (intersection b a)
    (length-intersection a b ∙ e ∙ sym (length-intersection b a))
    (λ cpu.
    is_in-intersection a b cpu
    ∙ and_comm (is_in a cpu) (is_in b cpu)
    ∙ sym (is_in-intersection b a cpu))

intersection-associates : (a b c : List Bool)
    → intersection (intersection a b) c ≡ intersection a (intersection b c)
intersection-associates a b c =
    same_from_flags (intersection (intersection a b) c) (intersection a (intersection b c))
    (length-intersection (intersection a b) c ∙ length-intersection a b
    ∙ sym (length-intersection a (intersection b c)))
    (λ cpu.
    is_in-intersection (intersection a b) c cpu
    ∙ ap (λ there. there && is_in c cpu) (is_in-intersection a b cpu)
    ∙ and_assoc (is_in a cpu) (is_in b cpu) (is_in c cpu)
    ∙ ap (λ there. is_in a cpu && there) (sym (is_in-intersection b c cpu))
    ∙ sym (is_in-intersection a (intersection b c) cpu))

intersection-itself : (a : List Bool) → intersection a a ≡ a
intersection-itself a =
    same_from_flags (intersection a a) a (length-intersection a a)
    (λ cpu. is_in-intersection a a cpu ∙ and_self (is_in a cpu))

intersection-again : (a b : List Bool) → intersection (intersection a b) b ≡ intersection a b
intersection-again a b =
    same_from_flags (intersection (intersection a b) b) (intersection a b)
    (length-intersection (intersection a b) b)
    (λ cpu.
    is_in-intersection (intersection a b) b cpu
    ∙ ap (λ there. there && is_in b cpu) (is_in-intersection a b cpu)
    ∙ and_assoc (is_in a cpu) (is_in b cpu) (is_in b cpu)
    ∙ ap (λ there. is_in a cpu && there) (and_self (is_in b cpu))
    ∙ sym (is_in-intersection a b cpu))

-- the test that two began alike decides whether number of processors, tag and start set are equal
abbrev pub Equals : Standing → Standing → Type 0
Equals x y = (length x.awaited ≡ length y.awaited) × (x.tag ≡ y.tag) × (x.start_set ≡ y.start_set)

are_alike-equals : (x y : Standing) → are_alike x y ≡ true → Equals x y
are_alike-equals x y e =
    let one =
    and_parts (length x.awaited == length y.awaited)
    (same_tag x.tag y.tag && same_set x.start_set y.start_set) e in
    let two = and_parts (same_tag x.tag y.tag) (same_set x.start_set y.start_set) one.1 in (
      (Decides-eqb (length x.awaited) (length y.awaited)).0 one.0,
      (same_tag-Decides x.tag y.tag).0 two.0,
      (same_set-Decides x.start_set y.start_set).0 two.1,
    )

equals-alike : (x y : Standing) → Equals x y → are_alike x y ≡ true
equals-alike x y h =
    let cpus = (Decides-eqb (length x.awaited) (length y.awaited)).1 h.0 in
    let tag = (same_tag-Decides x.tag y.tag).1 h.1 in
    let start = (same_set-Decides x.start_set y.start_set).1 h.2 in
    rw (cpus, tag, start)

pub are_alike-Decides : (x y : Standing) → Decides (are_alike x y) (Equals x y)
are_alike-Decides x y = (are_alike-equals x y, equals-alike x y)

-- a grace period that awaits a part of its set stays alike to the same ones
pub merged-alike_first : (x y z : Standing) → are_alike (after_merge x y) z ≡ are_alike x z
merged-alike_first x y z = rw (length-intersection x.awaited y.awaited)

pub merged-alike_second : (x y z : Standing) → are_alike x (after_merge y z) ≡ are_alike x y
merged-alike_second x y z = rw (length-intersection y.awaited z.awaited)

-- equal parts make equal standings
pub same_standing : (x y : Standing)
    → x.tag ≡ y.tag → x.start_set ≡ y.start_set → x.awaited ≡ y.awaited → x ≡ y
same_standing x y e f h = rw (e, f, h)

pub merged-commutes : (x y : Standing) → are_alike x y ≡ true → after_merge x y ≡ after_merge y x
merged-commutes x y e =
    let equal = are_alike-equals x y e in
    same_standing (after_merge x y) (after_merge y x) equal.1 equal.2
    (intersection-commutes x.awaited y.awaited equal.0)

pub merged-associates : (x y z : Standing)
    → after_merge (after_merge x y) z ≡ after_merge x (after_merge y z)
merged-associates x y z =
    ap (λ (set : List Bool). record x { awaited = set })
    (intersection-associates x.awaited y.awaited z.awaited)

pub merged-itself : (x : Standing) → after_merge x x ≡ x
merged-itself x =
    ap (λ (set : List Bool). record x { awaited = set }) (intersection-itself x.awaited)

pub merged-again : (x y : Standing) → after_merge (after_merge x y) y ≡ after_merge x y
merged-again x y =
    ap (λ (set : List Bool). record x { awaited = set }) (intersection-again x.awaited y.awaited)

-- being alike is an equivalence
are_alike-itself : (x : Standing) → are_alike x x ≡ true
are_alike-itself x = equals-alike x x (refl, refl, refl)

pub are_alike-back : (x y : Standing) → are_alike x y ≡ true → are_alike y x ≡ true
are_alike-back x y e =
    let h = are_alike-equals x y e in equals-alike y x (sym h.0, sym h.1, sym h.2)

are_alike-on : (x y z : Standing) → are_alike x y ≡ true → are_alike y z ≡ true
    → are_alike x z ≡ true
are_alike-on x y z e f =
    let one = are_alike-equals x y e in
    let two = are_alike-equals y z f in
    equals-alike x z (one.0 ∙ two.0, one.1 ∙ two.1, one.2 ∙ two.2)

pub at_least-itself : (x : Standing) → IsAtLeast x x
at_least-itself x = record { alike = are_alike-itself x; part = λ cpu there. there }

pub at_least-on : (x y z : Standing) → IsAtLeast x y → IsAtLeast y z → IsAtLeast x z
at_least-on x y z one two = record {
  alike = are_alike-on x y z one.alike two.alike;
  part = λ cpu there. two.part cpu (one.part cpu there);
}

-- tests that imply one another are the same
pub same_test : (a b : Bool) → (a ≡ true → b ≡ true) → (b ≡ true → a ≡ true) → a ≡ b
same_test true b h k = sym (h refl)
same_test false true h k = k refl
same_test false false h k = refl

pub at_least-both : (x y : Standing) → IsAtLeast x y → IsAtLeast y x → x ≡ y
at_least-both x y one two =
    let equal = are_alike-equals x y one.alike in
    same_standing x y equal.1 equal.2 (same_from_flags x.awaited y.awaited equal.0 (λ cpu.
    same_test (is_in x.awaited cpu) (is_in y.awaited cpu) (one.part cpu) (two.part cpu)))

-- the merged one awaits a part of what each awaits
part_of_both : (x y : Standing) (cpu : ℕ) → is_in (after_merge x y).awaited cpu ≡ true
    → (is_in x.awaited cpu ≡ true) × (is_in y.awaited cpu ≡ true)
part_of_both x y cpu there =
    and_parts (is_in x.awaited cpu) (is_in y.awaited cpu)
    (sym (is_in-intersection x.awaited y.awaited cpu) ∙ there)

pub merged-at_least_first : (x y : Standing) → are_alike x y ≡ true → IsAtLeast (after_merge x y) x
merged-at_least_first x y e = record {
  alike = merged-alike_first x y x ∙ are_alike-itself x;
  part = λ cpu there. (part_of_both x y cpu there).0;
}

pub merged-at_least_second : (x y : Standing) → are_alike x y ≡ true → IsAtLeast (after_merge x y) y
merged-at_least_second x y e = record {
  alike = merged-alike_first x y y ∙ e;
  part = λ cpu there. (part_of_both x y cpu there).1;
}

pub merged-least : (x y z : Standing) → IsAtLeast z x → IsAtLeast z y
    → IsAtLeast z (after_merge x y)
merged-least x y z one two = record {
  alike = merged-alike_second z x y ∙ one.alike;
  part = λ cpu there.
      is_in-intersection x.awaited y.awaited cpu ∙ rw (one.part cpu there, two.part cpu there) refl;
}
