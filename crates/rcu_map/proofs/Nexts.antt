-- The entries that calls of `next` came to are those that they returned.
use Rattle.std.proofs.Common.{◌≡◌, ◌⊎◌, ℕ, zero, suc, List, [], ◌∷◌, ◌++◌, refl, sym, ap}
use Rattle.std.proofs.Common.{◌∙◌, ⊎_elim, append_assoc, arith, inl, inr}
use Rattle.std.specs.Prelude.{Contains}
use mathlib.Core.Option.{some-injective}
use lib.ListN.{get_elem?}
use Rattle.rcu_graph.specs.Nodes.{hops_in}
use Rattle.rcu_graph.specs.Search.{key_after}
use Rattle.rcu_graph.specs.declared.known.Hop.{Hop}
use Rattle.rcu_graph.specs.declared.known.Known.{Known}
use Rattle.rcu_map.specs.Listing.{GoOn, IsAtEnd, IsListed, LedNowhere}
use Rattle.rcu_map.specs.Nexts.{AreNexts, Nexted, after_nexts, keys_of}
use Rattle.rcu_map.specs.declared.cursor.Cursor.{Cursor}
use Rattle.rcu_map.proofs.Listings.{go_on_further}

-- the hop itself led to a node with the key, or one before it did
record IsLedTo (key : ℕ) (hop : Hop) : Type 0 where
  pub node : ℕ
  pub led : hop.to ≡ suc node
  pub has : key_after hop ≡ key

listed_first : (key : ℕ) (hop : Hop) (before : List Hop) (l : IsListed key (hop ∷ before))
    (i : ℕ) → l.index ≡ i → IsLedTo key hop ⊎ IsListed key before
listed_first key hop before l zero is =
    let same : hop ≡ l.hop = some-injective hop l.hop
    (sym (ap (λ (n : ℕ). get_elem? (hop ∷ before) n) is) ∙ l.there) in
    inl (record {
      node = l.node;
      led = ap (λ (h : Hop). h.to) same ∙ l.led;
      has = ap key_after same ∙ l.has;
    })
listed_first key hop before l (suc i) is =
    inr (record {
      index = i;
      hop = l.hop;
      there = sym (ap (λ (n : ℕ). get_elem? (hop ∷ before) n) is) ∙ l.there;
      node = l.node;
      led = l.led;
      has = l.has;
    })

-- hops that led nowhere led to no node
listed_behind : (key : ℕ) (over before : List Hop) → LedNowhere over
    → IsListed key (over ++ before) → IsListed key before
listed_behind key [] before nowhere l = l
listed_behind key (hop ∷ over) before nowhere l = ⊎_elim
    (λ (led : IsLedTo key hop).
    let to : hop.to ≡ suc led.node = led.led in
    let none : hop.to ≡ 0 = nowhere.0 in
    absurd (omega (arith, to, none)))
    (λ (rest : IsListed key (over ++ before)).
    listed_behind key over before nowhere.1 rest)
    (listed_first key hop (over ++ before) l l.index refl)

nothing_listed : (key : ℕ) → IsListed key [] → ⊥
nothing_listed key l = absurd (cc)

module _ {E : Type 0} (holds : List ℕ → Type 0) (decode : List ℕ → E) (buckets seed : ℕ)
    (first : Nexted) where
  -- the hops of these calls, which go on from the first one's cursor; they led only to keys that
  -- the calls returned
  pub record AreGone (calls : List Nexted) (now : Known) (at : Cursor) : Type 0 where
    pub hops : List Hop
    pub are : hops_in now ≡ hops ++ hops_in first.known
    pub goes : GoOn buckets seed first.at hops at
    pub returned : (key : ℕ) → IsListed key hops → Contains (keys_of calls) key

  one_more : (key other : ℕ) (keys : List ℕ) → Contains keys key → Contains (other ∷ keys) key
  one_more key other keys has = (suc has.0, omega (arith, has.1), has.2)

  gone : (calls : List Nexted) → AreNexts holds decode buckets seed first calls
      → AreGone calls (after_nexts first calls).known (after_nexts first calls).at
  gone [] none = record {
    hops = [];
    are = refl;
    goes = refl;
    returned = λ key l. absurd (nothing_listed key l);
  }
  gone (call ∷ earlier) more =
      let was = gone earlier more.1 in
      let step = more.0.1 in
      let latest : List Hop = step.last ∷ step.over in record {
        hops = latest ++ was.hops;
        are =
            step.are
            ∙ ap (λ (l : List Hop). step.last ∷ (step.over ++ l)) was.are
            ∙ ap (λ (l : List Hop). step.last ∷ l)
            (sym (append_assoc step.over was.hops (hops_in first.known)));
        goes =
            go_on_further buckets seed first.at (after_nexts first earlier).at call.at was.hops
            latest was.goes step.goes;
        returned = λ key l. ⊎_elim
            (λ (led : IsLedTo key step.last).
            (0, omega arith, sym step.key ∙ led.has))
            (λ (rest : IsListed key (step.over ++ was.hops)).
            one_more key call.at.key (keys_of earlier)
            (was.returned key (listed_behind key step.over was.hops step.nowhere rest)))
            (listed_first key step.last (step.over ++ was.hops) l l.index refl);
      }

  -- and up to the end
  pub gone_to_end : (calls : List Nexted) (now : Known) (at : Cursor)
      → AreNexts holds decode buckets seed first calls
      → IsAtEnd buckets seed (after_nexts first calls).known (after_nexts first calls).at now at
      → AreGone calls now at
  gone_to_end calls now at nexts end =
      let was = gone calls nexts in record {
        hops = end.over ++ was.hops;
        are =
            end.are
            ∙ ap (λ (l : List Hop). end.over ++ l) was.are
            ∙ sym (append_assoc end.over was.hops (hops_in first.known));
        goes =
            go_on_further buckets seed first.at (after_nexts first calls).at at was.hops end.over
            was.goes end.goes;
        returned = λ key l.
            was.returned key (listed_behind key end.over was.hops end.nowhere l);
      }
