-- Chains after a node was put in, and after one was skipped: they are in order, except for the
-- nodes that they skip.
use Rattle.std.proofs.Common.{◌≡◌, ◌≢◌, ℕ, suc, ◌<◌, ◌≤◌, ⊎_elim, Bool, true, false, List, length}
use Rattle.std.proofs.Common.{Some, None, refl, sym, ap, ◌∙◌, subst, arith}
use Rattle.std.specs.Prelude.{nat_eq, not}
use Rattle.std.proofs.lemmas.Bool.{cases_lt, eq-eqb, eqb-true}
use mathlib.Core.Logic.{dite}
use native.Mathlib.Decide.{ℕ_discrete}
use Rattle.rcu_graph.specs.Absence.{key_at, next_of}
use Rattle.rcu_graph.specs.Nodes.{node_at, state_at}
use Rattle.rcu_graph.specs.declared.known.Node.{Node}
use Rattle.rcu_graph.specs.declared.node_state.NodeState.TheVariants.{Free, Live}
use Rattle.rcu_graph.proofs.Puts.{not_free}
use Rattle.rcu_map.specs.Chains.{AreOfOneBucket, IsMap, LeadsTowards}
use Rattle.rcu_map.specs.Keys.{bucket_in, key_in, root_words}
use Rattle.rcu_map.specs.Splices.{IsPlace}
use Rattle.rcu_map.proofs.Chains.{bucket_at, led}

-- all nodes, and all but one
abbrev pub all : ℕ → Bool
all i = true

abbrev pub but : ℕ → ℕ → Bool
but old i = not (nat_eq i old)

pub but_other : (old i : ℕ) → but old i ≡ true → i ≢ old
but_other old i kept is = go (nat_eq i old) (eq-eqb i old is) kept
  where
    go : (b : Bool) → b ≡ true → not b ≡ true → ⊥
    go true e kept = cc
    go false e kept = cc

pub other_but : (old i : ℕ) → i ≢ old → but old i ≡ true
other_but old i ne = go (nat_eq i old) refl
  where
    go : (b : Bool) → nat_eq i old ≡ b → not b ≡ true
    go true e = absurd (ne (eqb-true i old e))
    go false e = refl

-- of these nodes those that stay are in order, as in a map of this number of buckets
pub record AreOrdered (buckets seed width : ℕ) (nodes : List Node) (stays : ℕ → Bool) : Type 0 where
  pub roots : (i : ℕ) → i < buckets → (node_at nodes i).words ≡ root_words width i
  pub linked : (i : ℕ) → state_at nodes i ≡ Live → length (node_at nodes i).links ≡ 1
  pub next : (i j : ℕ)
      → AreOfOneBucket buckets seed nodes i j
      → stays i ≡ true
      → stays j ≡ true
      → key_at nodes i < key_at nodes j
      → LeadsTowards nodes i j
  pub apart : (i j : ℕ)
      → AreOfOneBucket buckets seed nodes i j
      → stays i ≡ true
      → stays j ≡ true
      → key_at nodes i ≡ key_at nodes j
      → i ≡ j

-- a node of this key that has this link fits behind the previous one
pub record IsGap (buckets seed : ℕ) (A : List Node) (stays : ℕ → Bool)
    (previous key word : ℕ) : Type 0 where
  pub live : state_at A previous ≡ Live
  pub less : key_at A previous < key
  pub onward : (j : ℕ) → AreOfOneBucket buckets seed A previous j → stays j ≡ true → key < key_at A
      j
      → (to : ℕ) × (word ≡ suc to) × (state_at A to ≡ Live) × (key_at A to ≤ key_at A j)
  pub upward : (j : ℕ)
      → AreOfOneBucket buckets seed A previous j → stays j ≡ true → key_at A previous < key_at A j
      → key < key_at A j

-- a free node became live, behind the previous one, with these words and this link
pub record IsPut (A S : List Node) (previous node : ℕ) (words : List ℕ) (word : ℕ) : Type 0 where
  pub live : state_at S node ≡ Live
  pub states : (i : ℕ) → i ≢ node → state_at S i ≡ state_at A i
  pub is : (node_at S node).words ≡ words
  pub same : (i : ℕ) → i ≢ node → (node_at S i).words ≡ (node_at A i).words
  pub onward : next_of S node ≡ word
  pub led : next_of S previous ≡ suc node
  pub leads : (i : ℕ) → i ≢ node → i ≢ previous → next_of S i ≡ next_of A i
  pub one : length (node_at S node).links ≡ 1
  pub linked : (i : ℕ) → i ≢ node → length (node_at S i).links ≡ length (node_at A i).links

-- the previous node was given this link
pub record IsPassed (A S : List Node) (previous word : ℕ) : Type 0 where
  pub states : (i : ℕ) → state_at S i ≡ state_at A i
  pub same : (i : ℕ) → (node_at S i).words ≡ (node_at A i).words
  pub led : next_of S previous ≡ word
  pub leads : (i : ℕ) → i ≢ previous → next_of S i ≡ next_of A i
  pub linked : (i : ℕ) → length (node_at S i).links ≡ length (node_at A i).links

module _ (holds : List ℕ → Type 0) (buckets seed width count : ℕ) (A : List Node)
    (m : IsMap holds buckets seed width count A) where
  -- if no node has the key
  pub insertion_gap : (key previous : ℕ) → IsPlace buckets seed key A previous None
      → IsGap buckets seed A all previous key (next_of A previous)
  insertion_gap key previous place = record {
    live = place.live;
    less = place.less;
    onward = λ j one stays more.
        let low = place.less in
        let t = m.next previous j one (omega (arith, low, more)) in (
          t.to,
          t.leads,
          (led holds buckets seed width count A m previous t.to place.live t.leads).0,
          t.near,
        );
    upward = λ j one stays more.
        let t = m.next previous j one more in
        let far : key < key_at A t.to = place.leads t.to t.leads in
        let near = t.near in
        omega (arith, far, near);
  }

  -- if an old node has the key, and is left out
  module _ (key previous old : ℕ) (place : IsPlace buckets seed key A previous (Some old)) where
    pub old_led : (state_at A old ≡ Live) × (bucket_at buckets seed A previous ≡ bucket_at buckets
        seed A old)
    old_led =
        let r = led holds buckets seed width count A m previous old place.live place.leads.0 in
        (r.0, r.1.same)

    with_old : (j : ℕ) → AreOfOneBucket buckets seed A previous j
        → AreOfOneBucket buckets seed A old j
    with_old j one = record {
      first = old_led.0;
      second = one.second;
      same = sym old_led.1 ∙ one.same;
    }

    -- behind the previous node comes the old one
    pub past_old : (j : ℕ)
        → AreOfOneBucket buckets seed A previous j → but old j ≡ true → key_at A previous < key_at A
        j
        → key_at A old < key_at A j
    past_old j one stays more =
        let t = m.next previous j one more in
        let there = t.leads in
        let here = place.leads.0 in
        let is : t.to ≡ old = omega (arith, there, here) in
        let near : key_at A old ≤ key_at A j =
        subst (λ (n : ℕ). key_at A n ≤ key_at A j) is t.near in
        ⊎_elim
        (λ (less : key_at A old < key_at A j). less)
        (λ (most : key_at A j ≤ key_at A old). absurd (but_other old j stays
        (sym (m.apart old j (with_old j one) (omega (arith, near, most))))))
        (cases_lt (key_at A old) (key_at A j))

    pub replacement_gap : IsGap buckets seed A (but old) previous key (next_of A old)
    replacement_gap = record {
      live = place.live;
      less = place.less;
      onward = λ j one stays more.
          let is = place.leads.1 in
          let t = m.next old j (with_old j one) (omega (arith, is, more)) in (
            t.to,
            t.leads,
            (led holds buckets seed width count A m old t.to old_led.0 t.leads).0,
            t.near,
          );
      upward = λ j one stays more.
          let is = place.leads.1 in let past = past_old j one stays more in omega (arith, is, past);
    }

    -- the old node is passed
    module _ (S : List Node) (p : IsPassed A S previous (next_of A old)) where
      key_same : (i : ℕ) → key_at S i ≡ key_at A i
      key_same i = ap key_in (p.same i)

      as_before : (i j : ℕ) → AreOfOneBucket buckets seed S i j → AreOfOneBucket buckets seed A i j
      as_before i j one = record {
        first = sym (p.states i) ∙ one.first;
        second = sym (p.states j) ∙ one.second;
        same =
            ap (λ (w : List ℕ). bucket_in buckets seed w) (sym (p.same i))
            ∙ (one.same ∙ ap (λ (w : List ℕ). bucket_in buckets seed w) (p.same j));
      }

      towards : (i j : ℕ)
          → AreOfOneBucket buckets seed A i j → but old j ≡ true → key_at A i < key_at A j
          → LeadsTowards S i j
      towards i j one stays less = dite (ℕ_discrete i previous)
          (λ (is : i ≡ previous).
          let from : AreOfOneBucket buckets seed A previous j =
          subst (λ (n : ℕ). AreOfOneBucket buckets seed A n j) is one in
          let t = m.next old j (with_old j from)
          (past_old j from stays (subst (λ (n : ℕ). key_at A n < key_at A j) is less)) in
          let near = t.near in let a = key_same t.to in let b = key_same j in record {
            to = t.to;
            leads = ap (λ (n : ℕ). next_of S n) is ∙ (p.led ∙ t.leads);
            near = omega (arith, near, a, b);
          })
          (λ (ne : i ≢ previous).
          let t = m.next i j one less in
          let near = t.near in let a = key_same t.to in let b = key_same j in record {
            to = t.to;
            leads = p.leads i ne ∙ t.leads;
            near = omega (arith, near, a, b);
          })

      pub ordered_past : AreOrdered buckets seed width S (but old)
      ordered_past = record {
        roots = λ i low. p.same i ∙ m.roots i low;
        linked = λ i live. p.linked i ∙ m.linked i (sym (p.states i) ∙ live);
        next = λ i j one a b less. let x = key_same i in let y = key_same j in
            towards i j (as_before i j one) b (omega (arith, less, x, y));
        apart = λ i j one a b same. let x = key_same i in let y = key_same j in
            m.apart i j (as_before i j one) (omega (arith, same, x, y));
      }

  -- a node is put in
  module _ (stays : ℕ → Bool) (S : List Node) (previous node word : ℕ) (words : List ℕ)
      (gap : IsGap buckets seed A stays previous (key_in words) word)
      (p : IsPut A S previous node words word) (free : state_at A node ≡ Free)
      (same_bucket : bucket_at buckets seed A previous ≡ bucket_in buckets seed words) where
    key_here : key_at S node ≡ key_in words
    key_here = ap key_in p.is

    key_there : (i : ℕ) → i ≢ node → key_at S i ≡ key_at A i
    key_there i ne = ap key_in (p.same i ne)

    bucket_here : bucket_at buckets seed A previous ≡ bucket_at buckets seed S node
    bucket_here = same_bucket ∙ ap (λ (w : List ℕ). bucket_in buckets seed w) (sym p.is)

    bucket_there : (i : ℕ) → i ≢ node → bucket_at buckets seed S i ≡ bucket_at buckets seed A i
    bucket_there i ne = ap (λ (w : List ℕ). bucket_in buckets seed w) (p.same i ne)

    not_node : (i : ℕ) → state_at A i ≡ Live → i ≢ node
    not_node i live = not_free A node i free live

    before : (i j : ℕ) → i ≢ node → j ≢ node → AreOfOneBucket buckets seed S i j
        → AreOfOneBucket buckets seed A i j
    before i j ni nj one = record {
      first = sym (p.states i ni) ∙ one.first;
      second = sym (p.states j nj) ∙ one.second;
      same = sym (bucket_there i ni) ∙ (one.same ∙ bucket_there j nj);
    }

    -- a node of the new one's bucket
    beside : (j : ℕ)
        → j ≢ node → state_at S j ≡ Live → bucket_at buckets seed S node ≡ bucket_at buckets seed S
        j
        → AreOfOneBucket buckets seed A previous j
    beside j nj live same = record {
      first = gap.live;
      second = sym (p.states j nj) ∙ live;
      same = bucket_here ∙ (same ∙ bucket_there j nj);
    }

    from_node : (j : ℕ)
        → AreOfOneBucket buckets seed S node j → stays j ≡ true → key_at S node < key_at S j
        → LeadsTowards S node j
    from_node j one kept less = dite (ℕ_discrete j node)
        (λ (is : j ≡ node). absurd (let e : key_at S j ≡ key_at S node =
        ap (λ (n : ℕ). key_at S n) is in
        omega (arith, less, e)))
        (λ (ne : j ≢ node).
        let a = key_here in let b = key_there j ne in
        let t = gap.onward j (beside j ne one.second one.same) kept (omega (arith, less, a, b)) in
        let d = key_there t.0 (not_node t.0 t.2) in let near = t.3 in record {
          to = t.0;
          leads = p.onward ∙ t.1;
          near = omega (arith, near, b, d);
        })

    from_previous : (j : ℕ)
        → AreOfOneBucket buckets seed S previous j → stays j ≡ true → key_at S previous < key_at S j
        → LeadsTowards S previous j
    from_previous j one kept less = record {
      to = node;
      leads = p.led;
      near = dite (ℕ_discrete j node)
          (λ (is : j ≡ node).
          let e : key_at S j ≡ key_at S node = ap (λ (n : ℕ). key_at S n) is in omega (arith, e))
          (λ (ne : j ≢ node).
          let np = not_node previous gap.live in
          let a = key_here in let b = key_there j ne in let d = key_there previous np in
          let up = gap.upward j (before previous j np ne one) kept (omega (arith, less, b, d)) in
          omega (arith, up, a, b));
    }

    -- a node of the bucket that is not the previous one, and has a lesser key, has it below the
    -- previous one
    below : (i : ℕ)
        → AreOfOneBucket buckets seed A previous i
        → stays i ≡ true
        → i ≢ previous
        → key_at A i < key_in words
        → key_at A i < key_at A previous
    below i one kept ne less = ⊎_elim (λ (low : key_at A i < key_at A previous). low)
        (λ (high : key_at A previous ≤ key_at A i).
        ⊎_elim
        (λ (more : key_at A previous < key_at A i).
        absurd (let up = gap.upward i one kept more in omega (arith, less, up)))
        (λ (most : key_at A i ≤ key_at A previous).
        absurd (ne (sym (m.apart previous i one (omega (arith, high, most))))))
        (cases_lt (key_at A previous) (key_at A i)))
        (cases_lt (key_at A i) (key_at A previous))

    from_other : (i j : ℕ)
        → i ≢ node
        → i ≢ previous
        → AreOfOneBucket buckets seed S i j
        → stays i ≡ true
        → key_at S i < key_at S j
        → LeadsTowards S i j
    from_other i j ni np one kept less = dite (ℕ_discrete j node)
        (λ (is : j ≡ node).
        let here : AreOfOneBucket buckets seed S i node =
        subst (λ (n : ℕ). AreOfOneBucket buckets seed S i n) is one in
        let side = beside i ni one.first (sym here.same) in
        let turned : AreOfOneBucket buckets seed A i previous = record {
          first = side.second;
          second = side.first;
          same = sym side.same;
        } in
        let e : key_at S j ≡ key_at S node = ap (λ (n : ℕ). key_at S n) is in
        let a = key_here in let b = key_there i ni in
        let low = below i side kept np (omega (arith, less, e, a, b)) in
        let t = m.next i previous turned low in
        let live = (led holds buckets seed width count A m i t.to side.second t.leads).0 in
        let d = key_there t.to (not_node t.to live) in
        let near = t.near in
        let up = gap.less in
        record {
          to = t.to;
          leads = p.leads i ni np ∙ t.leads;
          near = omega (arith, near, up, d, e, a);
        })
        (λ (nj : j ≢ node).
        let a = key_there i ni in let b = key_there j nj in
        let t = m.next i j (before i j ni nj one) (omega (arith, less, a, b)) in
        let live =
        (led holds buckets seed width count A m i t.to (sym (p.states i ni) ∙ one.first) t.leads).0
        in
        let d = key_there t.to (not_node t.to live) in let near = t.near in record {
          to = t.to;
          leads = p.leads i ni np ∙ t.leads;
          near = omega (arith, near, b, d);
        })

    -- no other node has the new one's key
    alone : (j : ℕ) → AreOfOneBucket buckets seed S node j → stays j ≡ true
        → key_at S node ≡ key_at S j
        → node ≡ j
    alone j one kept same = dite (ℕ_discrete j node) (λ (is : j ≡ node). sym is)
        (λ (ne : j ≢ node).
        let a = key_here in let b = key_there j ne in let low = gap.less in
        let up =
        gap.upward j (beside j ne one.second one.same) kept (omega (arith, same, a, b, low)) in
        absurd (omega (arith, up, same, a, b)))

    turn : (i j : ℕ) → AreOfOneBucket buckets seed S i j → AreOfOneBucket buckets seed S j i
    turn i j one = record { first = one.second; second = one.first; same = sym one.same }

    pub ordered_with : AreOrdered buckets seed width S stays
    ordered_with = record {
      roots = λ i low. p.same i (not_node i (m.tended.rooted i low)) ∙ m.roots i low;
      linked = λ i live. dite (ℕ_discrete i node)
          (λ (is : i ≡ node). ap (λ (n : ℕ). length (node_at S n).links) is ∙ p.one)
          (λ (ne : i ≢ node). p.linked i ne ∙ m.linked i (sym (p.states i ne) ∙ live));
      next = λ i j one ki kj less. dite (ℕ_discrete i node)
          (λ (is : i ≡ node). subst (λ (n : ℕ). LeadsTowards S n j) (sym is)
          (from_node j (subst (λ (n : ℕ). AreOfOneBucket buckets seed S n j) is one) kj
          (subst (λ (n : ℕ). key_at S n < key_at S j) is less)))
          (λ (ni : i ≢ node). dite (ℕ_discrete i previous)
          (λ (is : i ≡ previous).
          subst (λ (n : ℕ). LeadsTowards S n j) (sym is)
          (from_previous j (subst (λ (n : ℕ). AreOfOneBucket buckets seed S n j) is one) kj
          (subst (λ (n : ℕ). key_at S n < key_at S j) is less)))
          (λ (np : i ≢ previous). from_other i j ni np one ki less));
      apart = λ i j one ki kj same. dite (ℕ_discrete i node)
          (λ (is : i ≡ node).
          is
          ∙ alone j (subst (λ (n : ℕ). AreOfOneBucket buckets seed S n j) is one) kj
          (subst (λ (n : ℕ). key_at S n ≡ key_at S j) is same))
          (λ (ni : i ≢ node). dite (ℕ_discrete j node)
          (λ (js : j ≡ node). sym (js
          ∙ alone i (subst (λ (n : ℕ). AreOfOneBucket buckets seed S n i) js (turn i j one)) ki
          (subst (λ (n : ℕ). key_at S n ≡ key_at S i) js (sym same))))
          (λ (nj : j ≢ node). let a = key_there i ni in let b = key_there j nj in
          m.apart i j (before i j ni nj one) (omega (arith, same, a, b))));
    }
