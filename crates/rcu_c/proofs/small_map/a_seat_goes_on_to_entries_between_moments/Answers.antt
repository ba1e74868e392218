use Rattle.std.proofs.Common.{◌≡◌, ◌≢◌, ◌∙◌, ◌<◌, ◌⊎◌, ℕ, List, [], ◌∷◌, ◌++◌, Option, Some, None}
use Rattle.std.proofs.Common.{ap, arith, inl, inr, length, refl, subst, sym, ⊎_elim}
use Rattle.rcu_graph.specs.Nodes.{hops_in}
use Rattle.rcu_graph.specs.Search.{key_after}
use Rattle.rcu_graph.specs.declared.known.Hop.{Hop}
use Rattle.rcu_graph.specs.declared.known.Known.{Known}
use Rattle.rcu_map.specs.After.{IsBehind, IsEntryAfter, IsNextAfter, IsNoneAfter, IsUpTo, LedUpTo}
use Rattle.rcu_map.specs.Keys.{bucket_of, key_in}
use Rattle.rcu_map.specs.Listing.{GoOn, GoesOn, at_root}
use Rattle.rcu_map.specs.SmallMap.{hop_0, hop_1, hop_2, small_hops, small_moments, small_plan}
use Rattle.rcu_map.specs.Words.{as_words}
use Rattle.rcu_map.specs.declared.cursor.Cursor.{Cursor}
use Rattle.rcu_c.specs.MapEntries.{IsKeyed, told}
use Rattle.rcu_c.proofs.small_map.a_seat_goes_on_to_entries_between_moments.Goals as goal

abbrev seed : ℕ
seed = small_plan.seed

-- a hop from a root, and one from a node, to a node of the second bucket
goes_0 : GoesOn 2 seed (at_root 0) hop_0
goes_0 = record {
  inside = omega arith;
  here = refl;
  along = refl;
  up = λ node is. absurd (omega (arith, is));
  same = λ node is. absurd (omega (arith, is));
}

goes_1 : GoesOn 2 seed (at_root 1) hop_1
goes_1 = record {
  inside = omega arith;
  here = refl;
  along = refl;
  up = λ node is. omega arith;
  same = λ node is. refl;
}

goes_2 : GoesOn 2 seed (record { bucket = 1; node = 2; key = 3 }) hop_2
goes_2 = record {
  inside = omega arith;
  here = refl;
  along = refl;
  up = λ node is. omega arith;
  same = λ node is. refl;
}

pub returns-clause-next : goal.returns-clause-next
returns-clause-next c = λ seat. record {
  planned = refl;
  begins = refl;
  ends = refl;
  next = record {
    found = Some (6 ∷ 60 ∷ []);
    is_told = refl;
    next = record {
      over = hop_1 ∷ [];
      last = hop_2;
      at = record { bucket = 1; node = 3; key = 6 };
      are = refl;
      up_to = (inr (inl refl), tt);
      goes = (
        record { bucket = 1; node = 2; key = 3 },
        (at_root 1, refl, goes_1, refl),
        goes_2,
        refl,
      );
      led = refl;
      behind = inr (refl, omega arith);
      whole = omega arith;
      told = refl;
    };
  };
}

pub returns-clause-in_next_bucket : goal.returns-clause-in_next_bucket
returns-clause-in_next_bucket c = λ seat. record {
  planned = refl;
  begins = refl;
  ends = refl;
  next = record {
    found = Some (3 ∷ 30 ∷ []);
    is_told = refl;
    next = record {
      over = hop_0 ∷ [];
      last = hop_1;
      at = record { bucket = 1; node = 2; key = 3 };
      are = refl;
      up_to = (inl refl, tt);
      goes = (at_root 1, (at_root 0, refl, goes_0, refl), goes_1, refl);
      led = refl;
      behind = inl (omega arith);
      whole = omega arith;
      told = refl;
    };
  };
}

-- no hop to the node of the key 6 comes up to the key 3
not_up_to : (hop : Hop) → hop ≡ hop_2 → (hop.to ≡ 0) ⊎ IsUpTo 2 seed 3 (key_after hop) → ⊥
not_up_to hop is (inl nowhere) =
    let to : 4 ≡ 0 = sym (ap (λ (h : Hop). h.to) is) ∙ nowhere in omega (arith, to)
not_up_to hop is (inr (inl same)) =
    let key : 6 ≡ 3 = sym (ap (λ (h : Hop). key_after h) is) ∙ same in omega (arith, key)
not_up_to hop is (inr (inr (inl later))) =
    let same : bucket_of 2 seed (key_after hop) ≡ 1 =
    ap (λ (h : Hop). bucket_of 2 seed (key_after h)) is in omega (arith, same, later)
not_up_to hop is (inr (inr (inr (_, more)))) =
    let key : key_after hop ≡ 6 = ap (λ (h : Hop). key_after h) is in omega (arith, key, more)

not_ended : (over : List Hop) → small_hops 3 ≡ over ++ small_hops 1 → LedUpTo 2 seed 3 over → ⊥
not_ended [] are up =
    let few : 3 ≡ 1 = ap (λ (l : List Hop). length l) are in omega (arith, few)
not_ended (hop ∷ over) are up = not_up_to hop (first over are) up.0
  where
    first : (rest : List Hop) → hop_2 ∷ hop_1 ∷ hop_0 ∷ [] ≡ hop ∷ (rest ++ small_hops 1)
        → hop ≡ hop_2
    first rest e = cc

not_missed : (found : Option (List ℕ)) (room entry : List ℕ)
    → IsNextAfter IsKeyed as_words 2 seed 3 (small_moments 1).section found
    (small_moments 9).section
    → entry ≡ told room found → key_in entry ≡ 0 → ⊥
not_missed None room entry next said empty = not_ended next.over next.are next.up_to
not_missed (Some words) room entry next said empty =
    let some : 0 < key_in words =
    subst (λ (w : List ℕ). IsKeyed w) (sym next.told) next.whole in
    let none : key_in words ≡ 0 = sym (ap key_in said) ∙ empty in omega (arith, some, none)

pub returns-clause-not_none : goal.returns-clause-not_none
returns-clause-not_none c = λ seat room entry empty between.
    not_missed between.next.found room entry between.next.next between.next.is_told empty

pub returns-clause-not_yet : goal.returns-clause-not_yet
returns-clause-not_yet c = λ seat room entry between.
    let few : 1 ≡ 3 = ap (λ (k : Known). length (hops_in k)) between.ends in omega (arith, few)

pub returns-clause-not_planned : goal.returns-clause-not_planned
returns-clause-not_planned c = λ plan seat room entry other between. other (sym between.planned)
