-- The reads of the section of the small run: its hops are loads of the run, and they search both
-- chains and list all entries.
use Rattle.std.proofs.Common.{Option, ⊎_elim}
use Rattle.std.proofs.Common.{◌≡◌, ℕ, zero, suc, ◌<◌, ◌≤◌, List, [], ◌∷◌, length, Some, inl, inr}
use Rattle.std.proofs.Common.{refl, sym, ap, ◌∙◌, subst, arith, None, ◌++◌}
use mathlib.Core.Option.{some-injective, some-ne-none}
use Rattle.rcu_graph.specs.Beside.{IsOpenAt, IsSectionMove, followed, stayed}
use Rattle.rcu_graph.specs.Nodes.{IsHeld, IsOn, place_of}
use Rattle.rcu_graph.specs.Search.{IsSearched, key_after}
use Rattle.rcu_graph.specs.Steps.{Followed, IsFollowed}
use Rattle.rcu_graph.specs.declared.known.Hop.{Hop}
use Rattle.rcu_graph.specs.declared.known.Known.TheVariants.{Reader}
use Rattle.rcu_map.specs.After.{IsNextAfter}
use Rattle.rcu_map.specs.Beside.{IsReadOver}
use Rattle.rcu_map.specs.Found.{IsEntryFound, IsGot, IsOfNode}
use Rattle.rcu_map.specs.Keys.{IsWhole, bucket_of, root_words}
use Rattle.rcu_map.specs.Listing.{GoOn, GoesOn, IsAtEnd, IsNextEntry, LedNowhere, at_root}
use Rattle.rcu_map.specs.Nexts.{AreNexts}
use Rattle.rcu_map.specs.SmallMap.{hop_0, hop_1, hop_2, hop_3, small_holds, small_hops}
use Rattle.rcu_map.specs.SmallMap.{small_calls, small_decode, small_first, small_moments}
use Rattle.rcu_map.specs.SmallMap.{small_plan}
use Rattle.rcu_map.specs.declared.cursor.Cursor.{Cursor}
use Rattle.rcu_map.proofs.SmallMap.{Up, seed, up_to_3, up_to_6}
use Rattle.rcu_map.proofs.SmallMoments.{First, Fits, JoinsIn}
use Rattle.rcu_map.proofs.SmallPlaces.{told}

-- the fact of the load of a hop
abbrev Tells : List Hop → Hop → Type 0
Tells hops hop = IsFollowed (IsWhole small_holds 2) (λ l from to. Up from to) (root_words 2) 2 1 2 5
    (place_of 2 1 2 hop.from 0) (Reader hops) hop.to (Reader (hop ∷ hops))

-- of a hop along the link 0 it is the target
followed_by : (hops : List Hop) (hop : Hop) → hop.link ≡ 0
    → ((words : List ℕ) → IsOn (root_words 2) 2 (Reader hops) hop.from words
    → Followed (IsWhole small_holds 2) (λ to. Up words to) 2 5 (Reader hops) hop.from 0 hop.to
    (Reader (hop ∷ hops)))
    → Tells hops hop
followed_by hops hop along each i l words low at on =
    let cell = told hop.from i l (omega (arith, low)) at in
    let from : hop.from ≡ i = cell.0 in
    let link : 0 ≡ l = cell.1 in
    let f = each words (subst (λ (n : ℕ). IsOn (root_words 2) 2 (Reader hops) n words)
    (sym from) on) in
    subst (λ (n : ℕ × ℕ).
    Followed (IsWhole small_holds 2) (λ to. Up words to) 2 5 (Reader hops) n.0 n.1 hop.to
    (Reader (hop ∷ hops)))
    (λ x. (from x, link x)) f

tells_0 : Tells [] hop_0
tells_0 = followed_by [] hop_0 refl
    (λ words on. record { words = []; is = refl; led = inl (refl, refl) })

tells_3 : Tells (small_hops 3) hop_3
tells_3 = followed_by (small_hops 3) hop_3 refl
    (λ words on. record { words = []; is = refl; led = inl (refl, refl) })

to_3 : (words : List ℕ) → IsOn (root_words 2) 2 (Reader (small_hops 1)) 1 words
    → Up words (3 ∷ 30 ∷ [])
to_3 words (inl root) =
    subst (λ (w : List ℕ). Up w (3 ∷ 30 ∷ [])) root.1 (up_to_3 30)
to_3 words (inr (zero, h, there, to, is)) =
    let e : 0 ≡ 2 = ap (λ (x : Hop). x.to) (some-injective _ _ there) ∙ to in
    absurd (omega (arith, e))
to_3 words (inr (suc k, h, there, to, is)) = absurd (some-ne-none h (sym there))

to_6 : (words : List ℕ) → IsOn (root_words 2) 2 (Reader (small_hops 2)) 2 words
    → Up words (6 ∷ 60 ∷ [])
to_6 words (inl root) = let low = root.0 in absurd (omega (arith, low))
to_6 words (inr (zero, h, there, to, is)) =
    subst (λ (w : List ℕ). Up w (6 ∷ 60 ∷ []))
    (ap (λ (x : Hop). x.words) (some-injective _ _ there) ∙ is) (up_to_6 30)
to_6 words (inr (suc zero, h, there, to, is)) =
    let e : 0 ≡ 3 = ap (λ (x : Hop). x.to) (some-injective _ _ there) ∙ to in
    absurd (omega (arith, e))
to_6 words (inr (suc (suc k), h, there, to, is)) = absurd (some-ne-none h (sym there))

tells_1 : Tells (small_hops 1) hop_1
tells_1 = followed_by (small_hops 1) hop_1 refl (λ words on. record {
  words = 3 ∷ 30 ∷ [];
  is = refl;
  led = inr (
    2,
    refl,
    record {
      inside = omega arith;
      size = refl;
      whole = record { sized = refl; entry = λ up. up };
      joined = to_3 words on;
    },
  );
})

tells_2 : Tells (small_hops 2) hop_2
tells_2 = followed_by (small_hops 2) hop_2 refl (λ words on. record {
  words = 6 ∷ 60 ∷ [];
  is = refl;
  led = inr (
    3,
    refl,
    record {
      inside = omega arith;
      size = refl;
      whole = record { sized = refl; entry = λ up. up };
      joined = to_6 words on;
    },
  );
})

section_at : (t : ℕ) → t ≤ 10 → IsOpenAt Fits JoinsIn First small_plan 0 4 (small_moments t)
section_at zero low = record { cpu = 0; shown = refl; reads = tt }
section_at (suc zero) low = record { cpu = 0; shown = refl; reads = tt }
section_at (suc (suc zero)) low = record { cpu = 0; shown = refl; reads = tt }
section_at (suc (suc (suc zero))) low = record { cpu = 0; shown = refl; reads = tt }
section_at (suc (suc (suc (suc zero)))) low = record { cpu = 0; shown = refl; reads = tt }
section_at (suc (suc (suc (suc (suc zero))))) low = record { cpu = 0; shown = refl; reads = tt }
section_at (suc (suc (suc (suc (suc (suc zero)))))) low =
    record { cpu = 0; shown = refl; reads = tt }
section_at (suc (suc (suc (suc (suc (suc (suc zero))))))) low =
    record { cpu = 0; shown = refl; reads = tt }
section_at (suc (suc (suc (suc (suc (suc (suc (suc zero)))))))) low =
    record { cpu = 0; shown = refl; reads = tt }
section_at (suc (suc (suc (suc (suc (suc (suc (suc (suc zero))))))))) low =
    record { cpu = 0; shown = refl; reads = tt }
section_at (suc (suc (suc (suc (suc (suc (suc (suc (suc (suc t)))))))))) low =
    record { cpu = 0; shown = refl; reads = tt }

section_moves : (t : ℕ) → t < 10
    → IsSectionMove Fits JoinsIn First small_plan (small_moments t) (small_moments (suc t))
section_moves zero low =
    followed 0 0 (0 ∷ 0 ∷ []) (omega arith) (inl (omega arith, refl)) (refl, tells_0) refl
section_moves (suc zero) low =
    followed 1 0 (0 ∷ 1 ∷ []) (omega arith) (inl (omega arith, refl)) (refl, tells_1) refl
section_moves (suc (suc zero)) low = stayed refl
section_moves (suc (suc (suc zero))) low = stayed refl
section_moves (suc (suc (suc (suc zero)))) low = stayed refl
section_moves (suc (suc (suc (suc (suc zero))))) low = stayed refl
section_moves (suc (suc (suc (suc (suc (suc zero)))))) low = stayed refl
section_moves (suc (suc (suc (suc (suc (suc (suc zero))))))) low = stayed refl
section_moves (suc (suc (suc (suc (suc (suc (suc (suc zero)))))))) low =
    followed 2 0 (3 ∷ 30 ∷ []) (omega arith) (inr (0, hop_1, refl, refl, refl)) (refl, tells_2) refl
section_moves (suc (suc (suc (suc (suc (suc (suc (suc (suc zero))))))))) low =
    followed 3 0 (6 ∷ 60 ∷ []) (omega arith) (inr (0, hop_2, refl, refl, refl)) (refl, tells_3) refl
section_moves (suc (suc (suc (suc (suc (suc (suc (suc (suc (suc t)))))))))) low =
    absurd (omega (arith, low))

pub read_over : IsReadOver small_holds small_plan 0 4 10 small_moments
read_over = record { at = section_at; moves = section_moves }

-- the section finds the key 3 by one hop, and the key 6 by two, the second of which it makes when
-- the entry was removed already
pub searched_3 : IsSearched (bucket_of 2 seed 3) 3 (Reader (small_hops 1)) (Some 2)
    (Reader (small_hops 2))
searched_3 = record {
  path = [];
  last = hop_1;
  are = refl;
  is_path = refl;
  along = refl;
  decided = (refl, refl);
}

pub searched_6 : IsSearched (bucket_of 2 seed 6) 6 (Reader (small_hops 1)) (Some 3)
    (Reader (small_hops 3))
searched_6 = record {
  path = hop_1 ∷ [];
  last = hop_2;
  are = refl;
  is_path = (refl, refl, omega arith, refl);
  along = refl;
  decided = (refl, refl);
}

pub held_6 : IsHeld (Reader (small_hops 3)) 3 (6 ∷ 60 ∷ [])
held_6 = (0, hop_2, refl, refl, refl)

pub got_6 : IsGot small_holds small_decode 2 seed 6 (Reader (small_hops 1)) (Some 60)
    (Reader (small_hops 3))
got_6 = record {
  node = Some 3;
  searched = searched_6;
  told = record {
    words = 6 ∷ 60 ∷ [];
    held = held_6;
    whole = omega arith;
    is = refl;
    told = refl;
  };
}

-- the first bucket has no entry, so not that of the key 5
pub got_none : IsGot small_holds small_decode 2 seed 5 (Reader (small_hops 0)) None
    (Reader (small_hops 1))
got_none = record {
  node = None;
  searched = record {
    path = [];
    last = hop_0;
    are = refl;
    is_path = refl;
    along = refl;
    decided = inl refl;
  };
  told = tt;
}

-- the section goes on over all chains
goes_0 : GoesOn 2 seed (at_root 0) hop_0
goes_0 = record {
  inside = omega arith;
  here = refl;
  along = refl;
  up = λ node is. absurd (omega (arith, is));
  same = λ node is. absurd (omega (arith, is));
}

goes_1 : GoesOn 2 seed (at_root 1) hop_1
goes_1 = record {
  inside = omega arith;
  here = refl;
  along = refl;
  up = λ node is. omega arith;
  same = λ node is. refl;
}

goes_2 : GoesOn 2 seed (record { bucket = 1; node = 2; key = 3 }) hop_2
goes_2 = record {
  inside = omega arith;
  here = refl;
  along = refl;
  up = λ node is. omega arith;
  same = λ node is. refl;
}

goes_3 : GoesOn 2 seed (record { bucket = 1; node = 3; key = 6 }) hop_3
goes_3 = record {
  inside = omega arith;
  here = refl;
  along = refl;
  up = λ node is. absurd (omega (arith, is));
  same = λ node is. absurd (omega (arith, is));
}

to_first : GoOn 2 seed (at_root 0) (hop_1 ∷ hop_0 ∷ []) (record { bucket = 1; node = 2; key = 3 })
to_first = (at_root 1, (at_root 0, refl, goes_0, refl), goes_1, refl)

pub over_all : GoOn 2 seed (at_root 0) (small_hops 4) (at_root 2)
over_all = (
  record { bucket = 1; node = 3; key = 6 },
  (record { bucket = 1; node = 2; key = 3 }, to_first, goes_2, refl),
  goes_3,
  refl,
)

pub nexts : AreNexts small_holds small_decode 2 seed small_first small_calls
nexts = (
  (
    60,
    record {
      over = [];
      last = hop_2;
      are = refl;
      nowhere = tt;
      goes = (record { bucket = 1; node = 2; key = 3 }, refl, goes_2, refl);
      led = refl;
      key = refl;
      whole = omega arith;
      told = refl;
    },
  ),
  (
    (
      30,
      record {
        over = hop_0 ∷ [];
        last = hop_1;
        are = refl;
        nowhere = (refl, tt);
        goes = to_first;
        led = refl;
        key = refl;
        whole = omega arith;
        told = refl;
      },
    ),
    tt,
  ),
)

pub at_end : IsAtEnd 2 seed (Reader (small_hops 3)) (record { bucket = 1; node = 3; key = 6 })
    (Reader (small_hops 4)) (at_root 2)
at_end = record {
  over = hop_3 ∷ [];
  are = refl;
  nowhere = (refl, tt);
  goes = (record { bucket = 1; node = 3; key = 6 }, refl, goes_3, refl);
  ended = refl;
}

-- the next entry behind the key 3 is that of the key 6
pub after_3 : IsNextAfter small_holds small_decode 2 seed 3 (Reader (small_hops 1)) (Some 60)
    (Reader (small_hops 3))
after_3 = record {
  over = hop_1 ∷ [];
  last = hop_2;
  at = record { bucket = 1; node = 3; key = 6 };
  are = refl;
  up_to = (inr (inl refl), tt);
  goes = (record { bucket = 1; node = 2; key = 3 }, (at_root 1, refl, goes_1, refl), goes_2, refl);
  led = refl;
  behind = inr (refl, omega arith);
  whole = omega arith;
  told = refl;
}

-- and the next one behind 5, of the bucket before, is that of the key 3
pub after_5 : IsNextAfter small_holds small_decode 2 seed 5 (Reader (small_hops 0)) (Some 30)
    (Reader (small_hops 2))
after_5 = record {
  over = hop_0 ∷ [];
  last = hop_1;
  at = record { bucket = 1; node = 2; key = 3 };
  are = refl;
  up_to = (inl refl, tt);
  goes = to_first;
  led = refl;
  behind = inl (omega arith);
  whole = omega arith;
  told = refl;
}

-- the latest of these hops
last_hop : (hop : Hop) (hops : List Hop) (last : Hop) (others : List Hop)
    → hop ∷ hops ≡ last ∷ others → hop ≡ last
last_hop hop hops last others e = cc

-- before the second hop the key 6 is not found
pub not_yet : IsSearched (bucket_of 2 seed 6) 6 (Reader (small_hops 1)) (Some 3)
    (Reader (small_hops 2)) → ⊥
not_yet search =
    let hop : hop_1 ≡ search.last = last_hop _ _ _ _ search.are in
    let led : 3 ≡ 4 = ap (λ (h : Hop). h.to) hop ∙ search.decided.0 in omega (arith, led)

-- hops that led nowhere, in front of others
none_led : (over hops : List Hop) (hop : Hop) (others : List Hop) → LedNowhere over
    → hop ∷ others ≡ over ++ hops → length hops ≤ length others → hop.to ≡ 0
none_led [] hops hop others led e few =
    let long = ap (λ (l : List Hop). length l) e in absurd (omega (arith, long, few))
none_led (first ∷ over) hops hop others led e few =
    ap (λ (h : Hop). h.to) (last_hop _ _ _ _ e) ∙ led.0

-- an entry that is left is not passed over: with the hop to the node 3 the iterator is not at its
-- end, and does not go on to an entry behind it
pub not_at_end : (at : Cursor)
    → IsAtEnd 2 seed (Reader (small_hops 0)) (at_root 0) (Reader (small_hops 3)) at → ⊥
not_at_end at end =
    let led : 4 ≡ 0 = none_led end.over [] hop_2 (small_hops 2) end.nowhere end.are (omega arith) in
    omega (arith, led)

pub not_passed : (entry : ℕ) (at : Cursor)
    → IsNextEntry small_holds small_decode 2 seed (Reader (small_hops 1)) (at_root 1)
    (Reader (small_hops 3)) at entry → ⊥
not_passed entry at next = passed next.over next.last next.are next.nowhere
  where
    passed : (over : List Hop) (last : Hop)
        → small_hops 3 ≡ last ∷ (over ++ small_hops 1) → LedNowhere over → ⊥
    passed [] last e led =
        let long = ap (λ (l : List Hop). length l) e in omega (arith, long)
    passed (first ∷ over) last e led =
        let one : hop_1 ≡ first = second_hop e in
        let to : 3 ≡ 0 = ap (λ (h : Hop). h.to) one ∙ led.0 in omega (arith, to)
      where
        second_hop : hop_2 ∷ hop_1 ∷ hop_0 ∷ [] ≡ last ∷ (first ∷ (over ++ small_hops 1))
            → hop_1 ≡ first
        second_hop e = cc

-- nor is it at its end on the root of the last bucket
pub not_ended : IsAtEnd 2 seed (Reader (small_hops 0)) (at_root 0) (Reader (small_hops 1))
    (at_root 1) → ⊥
not_ended end = let ended : 1 ≡ 2 = end.ended in omega (arith, ended)

-- a section that comes to the node of the key 6 reads its entry
no_entry : (node : Option ℕ)
    → IsSearched (bucket_of 2 seed 6) 6 (Reader (small_hops 1)) node (Reader (small_hops 3))
    → IsOfNode (λ i entry.
    IsEntryFound small_holds small_decode 6 (Reader (small_hops 3)) i entry) node None
    → ⊥
no_entry (Some node) search none = none
no_entry None search none =
    let hop : hop_2 ≡ search.last = last_hop _ _ _ _ search.are in
    let to : 4 ≡ search.last.to = ap (λ (h : Hop). h.to) hop in
    let key : 6 ≡ key_after search.last = ap (λ (h : Hop). key_after h) hop in
    ⊎_elim (λ (led : search.last.to ≡ 0). omega (arith, led, to))
    (λ (more : 6 < key_after search.last). omega (arith, more, key)) search.decided

pub not_none : IsGot small_holds small_decode 2 seed 6 (Reader (small_hops 1)) None
    (Reader (small_hops 3)) → ⊥
not_none got = no_entry got.node got.searched got.told
