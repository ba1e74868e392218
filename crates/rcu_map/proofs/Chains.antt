-- Properties of the chains of a map.
use Rattle.std.proofs.Common.{◌≡◌, ℕ, suc, ◌<◌, ◌≤◌, ⊎_elim, List, Option, Some}
use Rattle.std.proofs.Common.{None, length, sym, ap, ◌∙◌, subst, arith}
use Rattle.std.specs.Prelude.{MatchOption, slice_index}
use Rattle.std.proofs.lemmas.Bool.{cases_lt}
use Rattle.rcu_graph.specs.Absence.{key_at, next_of}
use Rattle.rcu_graph.specs.Nodes.{node_at, state_at}
use Rattle.rcu_graph.specs.declared.known.Node.{Node}
use Rattle.rcu_graph.specs.declared.node_state.NodeState.TheVariants.{Free, Live}
use Rattle.rcu_graph.proofs.Counting.{live_inside}
use Rattle.rcu_graph.proofs.Tending.{led_there}
use Rattle.rcu_map.specs.Chains.{AreOfOneBucket, IsMap}
use Rattle.rcu_map.specs.Entries.{HasKey, IsEntry, IsNodeOf}
use Rattle.rcu_graph.specs.Puts.{IsFreeNode}
use Rattle.rcu_map.specs.Keys.{GoesUp, IsWhole, bucket_in, bucket_of, key_in}
use Rattle.rcu_map.specs.Splices.{IsPlace}
use Rattle.rcu_map.proofs.Buckets.{bucket_inside, entry_bucket, root_bucket}
use Rattle.rcu_map.proofs.Rows.{root_key}

-- the bucket of the node i
abbrev pub bucket_at : ℕ → ℕ → List Node → ℕ → ℕ
bucket_at buckets seed nodes i = bucket_in buckets seed (node_at nodes i).words

module _ (holds : List ℕ → Type 0) (buckets seed width count : ℕ) (A : List Node)
    (m : IsMap holds buckets seed width count A) where
  -- the target of a live node
  pub led : (i j : ℕ) → state_at A i ≡ Live → next_of A i ≡ suc j
      → (state_at A j ≡ Live) × GoesUp buckets seed (node_at A i).words (node_at A j).words
  led i j live leads =
      led_there (IsWhole holds width) (λ _ from to. GoesUp buckets seed from to) count buckets 1
      width
      A 0 (node_at A i).words (next_of A i) j (m.tended.led i 0 live (omega arith)) leads

  pub inside : (i : ℕ) → state_at A i ≡ Live → i < count
  inside i live = let bound = live_inside A i live in let few = m.few in omega (arith, bound, few)

  pub free_node : (i : ℕ) → i < count → state_at A i ≡ Free → IsFreeNode A i
  free_node i low free = record { inside = omega (arith, low, m.few); free = free }

  pub sized : (i : ℕ) → state_at A i ≡ Live → length (node_at A i).words ≡ width
  sized i live = (m.tended.whole i live).sized

  -- a live node does not lead past a live one of its bucket
  not_past : (i j k : ℕ)
      → AreOfOneBucket buckets seed A i j
      → key_at A i < key_at A j
      → next_of A i ≡ suc k
      → key_at A j < key_at A k
      → ⊥
  not_past i j k one less leads more =
      let t = m.next i j one less in
      let there = t.leads in
      let is : t.to ≡ k = omega (arith, there, leads) in
      let near : key_at A k ≤ key_at A j = subst (λ (n : ℕ). key_at A n ≤ key_at A j) is t.near in
      omega (arith, near, more)

  -- only one live node leads to a node
  pub one_way : (i j k : ℕ)
      → state_at A i ≡ Live → state_at A j ≡ Live → next_of A i ≡ suc k → next_of A j ≡ suc k
      → i ≡ j
  one_way i j k a b p q =
      let f = led i k a p in
      let g = led j k b q in
      let same : bucket_at buckets seed A i ≡ bucket_at buckets seed A j = f.1.same ∙ sym g.1.same
      in
      let one : AreOfOneBucket buckets seed A i j = record { first = a; second = b; same = same } in
      let other : AreOfOneBucket buckets seed A j i = record {
        first = b;
        second = a;
        same = sym same;
      } in
      ⊎_elim
      (λ (less : key_at A i < key_at A j). absurd (not_past i j k one less p g.1.up))
      (λ (more : key_at A j ≤ key_at A i). ⊎_elim
      (λ (less : key_at A j < key_at A i). absurd (not_past j i k other less q f.1.up))
      (λ (least : key_at A i ≤ key_at A j). m.apart i j one (omega (arith, more, least)))
      (cases_lt (key_at A j) (key_at A i)))
      (cases_lt (key_at A i) (key_at A j))

  -- a live node that is no root has a live one before it
  pub reached : (i : ℕ) → state_at A i ≡ Live → buckets ≤ i
      → (j : ℕ) × (state_at A j ≡ Live) × (next_of A j ≡ suc i)
  reached i live past =
      let r = m.tended.reached i live past in
      let low = r.inside in
      let first : r.link ≡ 0 = omega (arith, low) in (
        r.from,
        r.live,
        subst (λ (l : ℕ). slice_index (node_at A r.from).links l ≡ suc i) first r.leads,
      )

  pub root_key_at : (i : ℕ) → i < buckets → key_at A i ≡ 0
  root_key_at i low = ap key_in (m.roots i low) ∙ root_key width i

  -- of the live nodes those that are no roots have a key, and only those
  pub has_key : (i : ℕ) → state_at A i ≡ Live → buckets ≤ i → 0 < key_at A i
  has_key i live past =
      let r = reached i live past in
      let up = (led r.0 i r.1 r.2).1.up in omega (arith, up)

  pub behind_roots : (i : ℕ) → 0 < key_at A i → buckets ≤ i
  behind_roots i up = ⊎_elim
      (λ (low : i < buckets). absurd (let none = root_key_at i low in omega (arith, up, none)))
      (λ (past : buckets ≤ i). past)
      (cases_lt i buckets)

  pub of_its_bucket : (key node : ℕ) → 0 < key → IsNodeOf buckets A key node
      → bucket_at buckets seed A node ≡ bucket_of buckets seed key
  of_its_bucket key node some is = entry_bucket buckets seed key (node_at A node).words some is.is

  -- no two entries have one key
  pub one_entry : (key i j : ℕ) → 0 < key → IsNodeOf buckets A key i → IsNodeOf buckets A key j
      → i ≡ j
  one_entry key i j some a b = m.apart i j
      (record {
        first = a.entry.live;
        second = b.entry.live;
        same = of_its_bucket key i some a ∙ sym (of_its_bucket key j some b);
      })
      (a.is ∙ sym b.is)

  -- the place of a key
  module _ (key previous : ℕ) (some : 0 < key) where
    pub absent : IsPlace buckets seed key A previous None → HasKey buckets A key → ⊥
    absent place has =
        let is = has.1.is in
        let low = place.less in
        let one : AreOfOneBucket buckets seed A previous has.0 = record {
          first = place.live;
          second = has.1.entry.live;
          same = place.bucket ∙ sym (of_its_bucket key has.0 some has.1);
        } in
        let t = m.next previous has.0 one (omega (arith, low, is)) in
        let far : key < key_at A t.to = place.leads t.to t.leads in
        let near = t.near in
        omega (arith, far, near, is)

    pub there : (node : ℕ) → IsPlace buckets seed key A previous (Some node)
        → IsNodeOf buckets A key node
    there node place =
        let is : key_at A node ≡ key = place.leads.1 in record {
          entry = record {
            behind = behind_roots node (omega (arith, is, some));
            live = (led previous node place.live place.leads.0).0;
          };
          is = is;
        }

  -- the words of an entry are those of one
  pub entry_fits : (i : ℕ) → IsEntry buckets A i → holds (node_at A i).words
  entry_fits i entry = (m.tended.whole i entry.live).entry (has_key i entry.live entry.behind)

  -- an entry has a key
  pub no_entry_of_0 : HasKey buckets A 0 → ⊥
  no_entry_of_0 has =
      let is = has.1.is in
      let up = has_key has.0 has.1.entry.live has.1.entry.behind in omega (arith, is, up)

  -- the place of a key shows whether there is an entry
  pub told : (key previous : ℕ) (node : Option ℕ) → 0 < key → IsPlace buckets seed key A previous
      node
      → MatchOption node (HasKey buckets A key → ⊥) (λ n. IsNodeOf buckets A key n)
  told key previous None some place = absent key previous some place
  told key previous (Some node) some place = there key previous some node place

  -- the search of a key begins at the root of its bucket
  pub begins : (key : ℕ)
      → 0 < buckets
      → 1 < width
      → 0 < key
      → (state_at A (bucket_of buckets seed key) ≡ Live)
      × (bucket_at buckets seed A (bucket_of buckets seed key) ≡ bucket_of buckets seed key)
      × (key_at A (bucket_of buckets seed key) < key)
  begins key some room up =
      let low = bucket_inside buckets seed key some in
      let none = root_key_at (bucket_of buckets seed key) low in (
        m.tended.rooted (bucket_of buckets seed key) low,
        ap (λ (words : List ℕ). bucket_in buckets seed words)
            (m.roots (bucket_of buckets seed key) low)
            ∙ root_bucket buckets seed width (bucket_of buckets seed key) room,
        omega (arith, none, up),
      )
