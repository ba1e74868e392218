-- A load of the root's link: the section reads a version from now on.
use Rattle.std.proofs.Common.{◌≡◌, ℕ, zero, suc, ◌<◌, List, [], ◌∷◌, length, Option, Some, None}
use Rattle.std.proofs.Common.{refl, sym, ap, subst, inl, inr, arith}
use Rattle.std.specs.Option.{unwrap_or}
use lib.ListN.{get_elem?}
use Rattle.rcu_live.specs.Board.{Object}
use Rattle.rcu_live.specs.CpuSeat.{Seated}
use Rattle.rcu_graph.specs.Graph.{IsAt, IsWalking, word_to}
use Rattle.rcu_graph.specs.Nodes.{IsOn, hops_in}
use Rattle.rcu_graph.specs.Steps.{Followed, IsLedTo}
use Rattle.rcu_graph.specs.declared.known.Hop.{Hop}
use Rattle.rcu_graph.specs.declared.known.Known.{Known}
use Rattle.rcu_graph.specs.declared.known.Planned.{Planned}
use Rattle.rcu_graph.specs.declared.plan.Plan.{Plan}
use Rattle.rcu_cell.specs.Cell.{IsLoaded, ReadsSlot, latest_to, latest_words, slot_in, slot_of}
use Rattle.rcu_cell.specs.Cell.{version_in, version_of}

-- the word that a hop found gives the slot
pub slot_told : (to : Option ℕ) → unwrap_or to 0 ≡ slot_of (word_to to)
slot_told None = refl
slot_told (Some node) = refl

-- the section is on the slot of its latest load, which has that version
pub on_latest : (first : List ℕ) (roots : ℕ) (known : Known) → 0 < roots
    → 0 < length (hops_in known)
    → IsOn (λ _. first) roots known (slot_in known) (version_in first known)
on_latest first roots known some loaded = go (hops_in known) refl loaded
  where
    found : (hop : Hop) (before : List Hop) → hops_in known ≡ hop ∷ before → (x : ℕ) → hop.to ≡ x
        → IsOn (λ _. first) roots known (slot_of x) (version_of first x hop.words)
    found hop before e zero is = inl (some, refl)
    found hop before e (suc j) is =
        inr (0, hop, ap (λ (l : List Hop). get_elem? l 0) e, is, refl)

    go : (hops : List Hop) → hops_in known ≡ hops → 0 < length hops
        → IsOn (λ _. first) roots known (slot_of (latest_to hops))
        (version_of first (latest_to hops) (latest_words hops))
    go [] e low = absurd (omega (arith, low))
    go (hop ∷ before) e low = found hop before e hop.to refl

pub at_latest : (first : List ℕ) (cell : Object Plan) (seat : Seated Planned) (slot : ℕ)
    → 0 < cell.plan.roots → ReadsSlot cell seat slot → IsAt (λ _. first) cell seat slot
at_latest first cell seat slot some reads = record {
  walking = reads.walking;
  words = version_in first seat.view.client.known;
  on = subst (λ (i : ℕ). IsOn (λ _. first) cell.plan.roots seat.view.client.known i
      (version_in first seat.view.client.known))
      reads.latest (on_latest first cell.plan.roots seat.view.client.known some reads.loaded);
  inside = reads.inside;
}

-- the words that it reads are as many as a version has
pub version_size : (first : List ℕ) (width : ℕ) → length first ≡ width → (to : ℕ) (words : List ℕ)
    → (0 < to → length words ≡ width)
    → length (version_of first to words) ≡ width
version_size first width sized zero words found = sized
version_size first width sized (suc j) words found = found (omega arith)

module _ (holds : List ℕ → Type 0) (joins : List ℕ → Type 0) (first : List ℕ) (width count : ℕ)
    (sized : length first ≡ width) (whole : holds first) (was now : Known) where
  size_led : (x : ℕ) (words : List ℕ) → IsLedTo holds joins width count x words → 0 < x
      → length words ≡ width
  size_led x words (inl none) some = absurd (let e = none.0 in omega (arith, e, some))
  size_led x words (inr led) some = led.2.size

  whole_led : (x : ℕ) (words : List ℕ) → IsLedTo holds joins width count x words
      → holds (version_of first x words)
  whole_led zero words led = whole
  whole_led (suc j) words (inl none) = absurd (let e = none.0 in omega (arith, e))
  whole_led (suc j) words (inr led) = led.2.whole

  inside_led : 0 < count → (x : ℕ) (words : List ℕ) → IsLedTo holds joins width count x words
      → slot_of x < count
  inside_led some zero words led = some
  inside_led some (suc j) words (inl none) = absurd (let e = none.0 in omega (arith, e))
  inside_led some (suc j) words (inr led) =
      let e = led.1 in let low = led.2.inside in omega (arith, e, low)

  pub loaded : (x : ℕ) → Followed holds joins width count was 0 0 x now
      → IsLoaded holds first width was (slot_of x) now
  loaded x f = record {
    hop = record { from = 0; link = 0; to = x; words = f.words };
    are = ap hops_in f.is;
    from = refl;
    link = refl;
    shown = refl;
    size = subst (λ (k : Known). length (version_in first k) ≡ width) (sym f.is)
        (version_size first width sized x f.words (size_led x f.words f.led));
    whole = subst (λ (k : Known). holds (version_in first k)) (sym f.is)
        (whole_led x f.words f.led);
  }

  pub reads_slot : (cell : Object Plan) (seat : Seated Planned) (x : ℕ)
      → Followed holds joins width count was 0 0 x now
      → now ≡ seat.view.client.known
      → IsWalking cell seat
      → 0 < count
      → count ≡ cell.plan.nodes
      → width ≡ cell.plan.words
      → ReadsSlot cell seat (slot_of x)
  reads_slot cell seat x f same walking some few wide =
      let is = sym f.is in record {
        walking = walking;
        loaded = subst (λ (k : Known). 0 < length (hops_in k)) same
            (subst (λ (k : Known). 0 < length (hops_in k)) is (omega arith));
        latest = subst (λ (k : Known). slot_in k ≡ slot_of x) same
            (subst (λ (k : Known). slot_in k ≡ slot_of x) is refl);
        inside = subst (λ (n : ℕ). slot_of x < n) few (inside_led some x f.words f.led);
        sized = subst (λ (k : Known). 0 < latest_to (hops_in k)
            → length (latest_words (hops_in k)) ≡ cell.plan.words)
            same
            (subst (λ (k : Known). 0 < latest_to (hops_in k)
            → length (latest_words (hops_in k)) ≡ cell.plan.words)
            is
            (subst (λ (n : ℕ). 0 < x → length f.words ≡ n) wide (size_led x f.words f.led)));
      }
