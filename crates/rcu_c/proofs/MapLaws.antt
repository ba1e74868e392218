-- The entry that C gets, if a section's search found a node, and if not.
use Rattle.std.proofs.Common.{◌≡◌, ◌≢◌, ◌∙◌, ◌<◌, ℕ, Bool, true, false, List, Option, Some, None}
use Rattle.std.proofs.Common.{ap, arith, length, refl, subst, sym}
use Rattle.std.specs.Prelude.{◌==◌, if◌then◌else◌, IsSome, IsSomeAnd}
use Rattle.std.proofs.lemmas.Bool.{eqb-true}
use Rattle.std.proofs.lemmas.List.{get_or-set_same}
use Rattle.rcu_graph.specs.Nodes.{IsHeld}
use Rattle.rcu_graph.specs.declared.known.Known.{Known}
use Rattle.rcu_map.specs.After.{IsNextAfter, IsUpTo}
use Rattle.rcu_map.specs.Found.{IsEntryFound, IsOfNode}
use Rattle.rcu_map.specs.Keys.{key_in}
use Rattle.rcu_map.specs.Words.{as_words}
use Rattle.rcu_c.specs.Answers.{number_in_c, number_or, refusal_number}
use Rattle.rcu_c.specs.MapEntries.{IsKeyed, told}
use Rattle.rcu_c.specs.Maps.{width_refusal}
use Rattle.rcu_c.specs.Refusals.{first_of}
use Rattle.rcu_c.specs.declared.refusal.Refusal.{Refusal}
use Rattle.rcu_c.specs.declared.refusal.Refusal.TheVariants.{BadWords}

-- if a node was found, C gets an entry of the key
pub told_of_key : (key : ℕ) (known : Known) (node : Option ℕ) (found : Option (List ℕ))
    (room entry : List ℕ)
    → IsOfNode (λ i e. IsEntryFound IsKeyed as_words key known i e) node found
    → entry ≡ told room found → IsSome node → key_in entry ≡ key
told_of_key key known (Some i) (Some e) room entry is said some =
    ap key_in (said ∙ is.told) ∙ is.is
told_of_key key known (Some i) None room entry is said some = absurd is
told_of_key key known None (Some e) room entry is said some = absurd is
told_of_key key known None None room entry is said some = cc some

-- if C gets an entry of a key, a node was found, which the section holds with its words
pub node_told : (key : ℕ) (known : Known) (node : Option ℕ) (found : Option (List ℕ))
    (room entry : List ℕ)
    → IsOfNode (λ i e. IsEntryFound IsKeyed as_words key known i e) node found
    → 0 < length room → entry ≡ told room found → 0 < key_in entry
    → (i : ℕ) × (node ≡ Some i) × IsHeld known i entry × (key_in entry ≡ key)
node_told key known (Some i) (Some e) room entry is wide said some =
    let same = said ∙ is.told in (
      i,
      refl,
      subst (IsHeld known i) (sym same) is.held,
      ap key_in same ∙ is.is,
    )
node_told key known (Some i) None room entry is wide said some = absurd is
node_told key known None (Some e) room entry is wide said some = absurd is
node_told key known None None room entry is wide said some =
    let none : key_in entry ≡ 0 = ap key_in said ∙ get_or-set_same room 0 0 0 wide in
    absurd (omega (arith, none, some))

-- if a next entry was found, C gets it, and a property of its key holds for the key that C gets
pub told_next : (buckets seed key stays : ℕ) (was now : Known) (found : Option (List ℕ))
    (room entry : List ℕ) → entry ≡ told room found
    → IsNextAfter IsKeyed as_words buckets seed key was found now
    → IsSomeAnd found (λ words. IsUpTo buckets seed stays (key_in words))
    → (0 < key_in entry) × IsUpTo buckets seed stays (key_in entry)
told_next buckets seed key stays was now None room entry said is up = absurd up
told_next buckets seed key stays was now (Some words) room entry said is up = (
  subst IsKeyed (sym (said ∙ is.told)) is.whole,
  subst (λ (w : List ℕ). IsUpTo buckets seed stays (key_in w)) (sym said) up,
)

-- a refusal has a number
is_numbered : (refusal : Refusal) → refusal_number refusal ≢ 0
is_numbered refusal is = grind (arith, is)

-- a room that is not refused has as many words as an entry
sized_by : (words room : ℕ) (b : Bool) → (room == words) ≡ b
    → number_in_c (if b then None else Some BadWords) ≡ 0 → room ≡ words
sized_by words room true is none = eqb-true room words is
sized_by words room false is none = absurd (is_numbered BadWords none)

pub sized : (words room : ℕ) (seat first : Option Refusal)
    → number_or seat (number_in_c (first_of first (width_refusal words room))) ≡ 0 → room ≡ words
sized words room (Some refusal) first none = absurd (is_numbered refusal none)
sized words room None (Some refusal) none = absurd (is_numbered refusal none)
sized words room None None none = sized_by words room (room == words) refl none
