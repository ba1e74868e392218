-- A section that goes on from a key skips no key behind it that is linked throughout.
use Rattle.std.proofs.Common.{◌≡◌, ◌⊎◌, ℕ, zero, suc, ◌*◌, ◌/◌, ◌%◌, ◌^◌, ◌<◌, ◌≤◌, List, [], ◌∷◌}
use Rattle.std.proofs.Common.{◌++◌, Option, None, Some, ⊎_elim, sym, ap, ◌∙◌, subst, inl, inr}
use Rattle.std.proofs.Common.{arith, refl}
use Rattle.std.specs.Prelude.{IsSomeAnd}
use mathlib.Core.Option.{some}
use mathlib.Core.Logic.{dite}
use native.Mathlib.Decide.{ℕ_discrete}
use lib.ListN.{get_elem?}
use Rattle.rcu_graph.specs.Nodes.{hops_in}
use Rattle.rcu_graph.specs.Search.{key_after}
use Rattle.rcu_graph.specs.declared.known.Hop.{Hop}
use Rattle.rcu_graph.specs.declared.known.Known.{Known}
use Rattle.rcu_map.specs.After.{IsBehind, IsNextAfter, IsUpTo, LedUpTo}
use Rattle.rcu_map.specs.Keys.{bucket_of, key_in}
use Rattle.rcu_map.specs.Listing.{GoOn, IsListed, at_root, led_from}
use Rattle.rcu_map.specs.Words.{as_words}
use Rattle.rcu_map.specs.declared.cursor.Cursor.{Cursor}
use Rattle.rcu_map.proofs.Listings.{IsMissed, Progress, before, listed, missed, on_way}
use Rattle.rcu_map.proofs.Listings.{progress}

-- for the numbers of two keys and of their buckets: one is behind the other
abbrev LiesBehind : (a b key other : ℕ) → Type 0
LiesBehind a b key other = (a < b) ⊎ ((b ≡ a) × (key < other))

no_later : (a b key other : ℕ) → LiesBehind a b key other → a ≤ b
no_later a b key other behind = ⊎_elim
    (λ (less : a < b). omega (arith, less))
    (λ (same : (b ≡ a) × (key < other)). let is = same.0 in omega (arith, is))
    behind

not_itself : (a b key other : ℕ) → LiesBehind a b key other → other ≡ key → b ≡ a → ⊥
not_itself a b key other behind same equal = ⊎_elim
    (λ (less : a < b). omega (arith, less, equal))
    (λ (own : (b ≡ a) × (key < other)). let up = own.1 in omega (arith, up, same))
    behind

not_both : (a b key other : ℕ) → LiesBehind a b key other → LiesBehind b a other key → ⊥
not_both a b key other behind back =
    let low : a ≤ b = no_later a b key other behind in
    let high : b ≤ a = no_later b a other key back in
    ⊎_elim
    (λ (less : a < b). omega (arith, less, high))
    (λ (own : (b ≡ a) × (key < other)).
    let up = own.1 in
    ⊎_elim
    (λ (less : b < a). omega (arith, less, low))
    (λ (down : (a ≡ b) × (other < key)). let more = down.1 in omega (arith, up, more))
    back)
    behind

-- each key is behind 0
pub behind_0 : (buckets seed key : ℕ) → 0 < key → IsBehind buckets seed 0 key
behind_0 buckets seed key up =
    let nothing : (0 * seed) % 2 ^ 64 ≡ 0 = omega arith in
    let over : 0 * buckets / 2 ^ 64 ≡ 0 = omega arith in
    let none : bucket_of buckets seed 0 ≡ 0 = ap (λ (x : ℕ). x * buckets / 2 ^ 64) nothing ∙ over in
    dite (ℕ_discrete (bucket_of buckets seed key) 0)
    (λ (e : bucket_of buckets seed key ≡ 0). inr (e ∙ sym none, up))
    (λ (ne : bucket_of buckets seed key ≡ 0 → ⊥). inl (omega (arith, ne, none)))

-- the latest one of the hops of a list, or one before it
latest_or : (last : Hop) (over : List Hop) (index : ℕ) (hop : Hop)
    → get_elem? (last ∷ over) index ≡ some hop
    → (last ≡ hop) ⊎ ((k : ℕ) × (get_elem? over k ≡ some hop))
latest_or last over zero hop there = inl (cc)
latest_or last over (suc index) hop there = inr (index, there)

module _ (buckets seed key stays : ℕ) (up : 0 < stays)
    (inside : bucket_of buckets seed stays < buckets) (behind : IsBehind buckets seed key stays)
  where
    abbrev start : ℕ
    start = bucket_of buckets seed key

    abbrev root : ℕ
    root = bucket_of buckets seed stays

    early : start ≤ root
    early = no_later start root key stays behind

    -- a hop that skipped no key behind the first one did not lead to the other
    not_up_to : IsUpTo buckets seed key stays → ⊥
    not_up_to up_to = ⊎_elim
        (λ (same : stays ≡ key).
        not_itself start root key stays behind same (ap (bucket_of buckets seed) same))
        (λ (back : IsBehind buckets seed stays key). not_both start root key stays behind back)
        up_to

    not_led : (hops : List Hop) (index : ℕ) (hop : Hop) (node : ℕ)
        → LedUpTo buckets seed key hops → get_elem? hops index ≡ some hop → hop.to ≡ suc node
        → key_after hop ≡ stays → ⊥
    not_led [] index hop node up_to there led has = cc
    not_led (latest ∷ hops) zero hop node up_to there led has =
        let is : latest ≡ hop = cc in
        ⊎_elim
        (λ (none : latest.to ≡ 0).
        let to : latest.to ≡ suc node = ap (λ (h : Hop). h.to) is ∙ led in
        absurd (omega (arith, none, to)))
        (λ (low : IsUpTo buckets seed key (key_after latest)).
        not_up_to (subst (IsUpTo buckets seed key) (ap key_after is ∙ has) low))
        up_to.0
    not_led (latest ∷ hops) (suc index) hop node up_to there led has =
        not_led hops index hop node up_to.1 there led has

    not_listed : (hops : List Hop) → LedUpTo buckets seed key hops → IsListed stays hops → ⊥
    not_listed hops up_to l = not_led hops l.index l.hop l.node up_to l.there l.led l.has

    -- so none is left only if the key was missed
    none_left : (over : List Hop) (at : Cursor) → LedUpTo buckets seed key over
        → GoOn buckets seed (at_root start) over at → at.bucket ≡ buckets
        → (IsMissed root stays over → ⊥) → ⊥
    none_left over at up_to goes ended found =
        by (progress root stays buckets seed start over at early up goes)
      where
        by : Progress root stays over at → ⊥
        by (before low) = omega (arith, low, ended, inside)
        by (on_way w) =
            let here : at.bucket ≡ root = w.here in omega (arith, here, ended, inside)
        by (listed l) = not_listed over up_to l
        by (missed m) = found m

    -- and the key of the entry comes up to it
    entry_up_to : (over : List Hop) (last : Hop) (at : Cursor) → LedUpTo buckets seed key over
        → GoOn buckets seed (at_root start) (last ∷ over) at → last.to ≡ suc at.node
        → (IsMissed root stays (last ∷ over) → ⊥)
        → IsUpTo buckets seed stays (key_after last)
    entry_up_to over last at up_to goes led found =
        by (progress root stays buckets seed start (last ∷ over) at early up goes)
      where
        is_at : at ≡ record { bucket = goes.0.bucket; node = at.node; key = key_after last }
        is_at = goes.3 ∙ ap (λ (to : ℕ). led_from goes.0 to (key_after last)) led

        here : bucket_of buckets seed (key_after last) ≡ at.bucket
        here = goes.2.same at.node led ∙ sym (ap (λ (c : Cursor). c.bucket) is_at)

        key_is : at.key ≡ key_after last
        key_is = ap (λ (c : Cursor). c.key) is_at

        by_listed : IsListed stays (last ∷ over) → IsUpTo buckets seed stays (key_after last)
        by_listed l = ⊎_elim
            (λ (latest : last ≡ l.hop). inl (ap key_after latest ∙ l.has))
            (λ (older : (k : ℕ) × (get_elem? over k ≡ some l.hop)).
            absurd (not_led over older.0 l.hop l.node up_to older.1 l.led l.has))
            (latest_or last over l.index l.hop l.there)

        by : Progress root stays (last ∷ over) at → IsUpTo buckets seed stays (key_after last)
        by (before low) = inr (inl (subst (λ (b : ℕ). b < root) (sym here) low))
        by (on_way w) = inr (inr (
          sym (here ∙ w.here),
          subst (λ (k : ℕ). k < stays) key_is w.low,
        ))
        by (listed l) = by_listed l
        by (missed m) = absurd (found m)

    -- so the next entry behind the first key is the other's, or one before it
    pub next_up_to : (holds : List ℕ → Type 0) (was now : Known) (next : Option (List ℕ))
        → ((hops : List Hop) → hops_in now ≡ hops ++ hops_in was → IsMissed root stays hops → ⊥)
        → IsNextAfter holds as_words buckets seed key was next now
        → IsSomeAnd next (λ words. IsUpTo buckets seed stays (key_in words))
    next_up_to holds was now None found n =
        none_left n.over n.at n.up_to n.goes n.ended (found n.over n.are)
    next_up_to holds was now (Some words) found n =
        subst (IsUpTo buckets seed stays) (sym (ap key_in n.told))
        (entry_up_to n.over n.last n.at n.up_to n.goes n.led (found (n.last ∷ n.over) n.are))

module _ {E : Type 0} (holds : List ℕ → Type 0) (decode : List ℕ → E) (key_of : E → ℕ)
    (tells : (words : List ℕ) → holds words → key_of (decode words) ≡ key_in words) where
  -- a property of the next words is one of the entry that they decode to
  pub told_up_to : (buckets seed key stays : ℕ) (was now : Known)
      → ((words : Option (List ℕ)) → IsNextAfter holds as_words buckets seed key was words now
      → IsSomeAnd words (λ w. IsUpTo buckets seed stays (key_in w)))
      → (next : Option E) → IsNextAfter holds decode buckets seed key was next now
      → IsSomeAnd next (λ entry. IsUpTo buckets seed stays (key_of entry))
  told_up_to buckets seed key stays was now by None n = by None n
  told_up_to buckets seed key stays was now by (Some entry) n =
      subst (IsUpTo buckets seed stays) (sym (ap key_of n.told ∙ tells n.last.words n.whole))
      (by (Some n.last.words) (record {
        over = n.over;
        last = n.last;
        at = n.at;
        are = n.are;
        up_to = n.up_to;
        goes = n.goes;
        led = n.led;
        behind = n.behind;
        whole = n.whole;
        told = refl;
      }))
