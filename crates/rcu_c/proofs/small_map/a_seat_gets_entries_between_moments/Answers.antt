use Rattle.std.proofs.Common.{◌≡◌, ◌≢◌, ◌∙◌, ℕ, zero, suc, List, [], ◌∷◌, Option, Some, None, ap}
use Rattle.std.proofs.Common.{arith, length, refl, sym}
use Rattle.rcu_graph.specs.Nodes.{IsHeld, hops_in}
use Rattle.rcu_graph.specs.Search.{IsSearched}
use Rattle.rcu_graph.specs.declared.known.Known.{Known}
use Rattle.rcu_map.specs.Found.{IsEntryFound, IsGot, IsOfNode}
use Rattle.rcu_map.specs.Keys.{bucket_of, key_in}
use Rattle.rcu_map.specs.SmallMap.{small_decode, small_holds, small_moments, small_plan}
use Rattle.rcu_map.specs.Words.{as_words}
use Rattle.rcu_c.specs.MapEntries.{IsKeyed, told}
use Rattle.rcu_c.proofs.MapLaws.{told_of_key}
use Rattle.rcu_c.proofs.small_map.a_seat_gets_entries_between_moments.Goals as goal

pub returns-clause-got : goal.returns-clause-got
returns-clause-got c = λ seat. record {
  planned = refl;
  begins = refl;
  ends = refl;
  sized = refl;
  got = record {
    found = Some (6 ∷ 60 ∷ []);
    is_told = refl;
    none = λ is. absurd (omega (arith, is));
    got = λ some. record {
      node = Some 3;
      searched = c.a_section_finds_entries.ensures.searched;
      told = record {
        words = 6 ∷ 60 ∷ [];
        held = c.a_section_finds_entries.ensures.held;
        whole = omega arith;
        is = refl;
        told = refl;
      };
    };
  };
}

-- of a get that found none the entries may be of any type
found_none : (node : Option ℕ)
    → IsOfNode (λ i e. IsEntryFound small_holds small_decode 5 (small_moments 1).section i e) node
    None
    → IsOfNode (λ i e. IsEntryFound IsKeyed as_words 5 (small_moments 1).section i e) node None
found_none (Some i) is = absurd is
found_none None is = tt

pub returns-clause-got_none : goal.returns-clause-got_none
returns-clause-got_none c = λ seat.
    let got = c.a_section_finds_entries.ensures.got_none in
    record {
      planned = refl;
      begins = refl;
      ends = refl;
      sized = refl;
      got = record {
        found = None;
        is_told = refl;
        none = λ is. absurd (omega (arith, is));
        got = λ some. record {
          node = got.node;
          searched = got.searched;
          told = found_none got.node got.told;
        };
      };
    }

-- the section searches the chain of the key 6 between the moments 1 and 9
abbrev Searched : Option ℕ → Type 0
Searched node = IsSearched (bucket_of 2 small_plan.seed 6) 6 (small_moments 1).section node
    (small_moments 9).section

abbrev Told : Option ℕ → Option (List ℕ) → Type 0
Told = IsOfNode (λ i e. IsEntryFound IsKeyed as_words 6 (small_moments 9).section i e)

-- a search that found no node would be a get that found none
not_missed : (IsGot small_holds small_decode 2 small_plan.seed 6 (small_moments 1).section None
    (small_moments 9).section → ⊥)
    → (node : Option ℕ) (found : Option (List ℕ)) (room entry : List ℕ)
    → Searched node → Told node found → entry ≡ told room found → key_in entry ≡ 0 → ⊥
not_missed none (Some i) found room entry made is said empty =
    let key = told_of_key 6 (small_moments 9).section (Some i) found room entry is said refl in
    omega (arith, key, empty)
not_missed none None (Some e) room entry made is said empty = is
not_missed none None None room entry made is said empty =
    none (record { node = None; searched = made; told = tt })

pub returns-clause-not_none : goal.returns-clause-not_none
returns-clause-not_none c = λ seat room entry empty between.
    let got = between.got.got (omega arith) in
    not_missed c.a_section_finds_entries.ensures.not_none got.node between.got.found room entry
    got.searched got.told between.got.is_told empty

pub returns-clause-not_yet : goal.returns-clause-not_yet
returns-clause-not_yet c = λ seat room entry between.
    let few : 1 ≡ 3 = ap (λ (k : Known). length (hops_in k)) between.ends in omega (arith, few)

pub returns-clause-not_sized : goal.returns-clause-not_sized
returns-clause-not_sized c = λ seat room entry other between. other between.sized

pub returns-clause-not_planned : goal.returns-clause-not_planned
returns-clause-not_planned c = λ plan seat room entry other between. other (sym between.planned)
