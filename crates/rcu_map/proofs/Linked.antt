-- A key that is in a map is linked, and no other one is; and words that are linked are an entry's.
use Rattle.std.proofs.Common.{◌≡◌, ◌+◌, ◌<◌, ◌≤◌, ◌∙◌, ℕ, zero, suc, ⊎_elim, List, arith, subst}
use Rattle.std.proofs.Common.{ap, sym}
use Rattle.std.proofs.lemmas.Bool.{cases_lt}
use Rattle.rcu_graph.specs.Absence.{AreLinkedWords, IsLinkedKey, Reaches, arrived, key_at, next_of}
use Rattle.rcu_graph.specs.Absence.{onwards}
use Rattle.rcu_graph.specs.Nodes.{state_at}
use Rattle.rcu_graph.specs.declared.known.Node.{Node}
use Rattle.rcu_graph.specs.declared.node_state.NodeState.TheVariants.{Live}
use Rattle.rcu_graph.proofs.Stores.{live_reached}
use Rattle.rcu_map.specs.Chains.{AreOfOneBucket, IsMap}
use Rattle.rcu_map.specs.Entries.{HasEntry, HasKey, IsEntry}
use Rattle.rcu_map.specs.Keys.{bucket_of, key_in}
use Rattle.rcu_map.proofs.Chains.{begins, behind_roots, led, of_its_bucket}

-- the link of a node leads on to this one
pub record LeadsOn (nodes : List Node) (from to : ℕ) : Type 0 where
  pub begin : ℕ
  pub begins : next_of nodes from ≡ suc begin
  pub reached : Reaches nodes to begin

module _ (holds : List ℕ → Type 0) (buckets seed width count : ℕ) (A : List Node)
    (m : IsMap holds buckets seed width count A) where
  -- from a live node the chain leads to each one of its bucket with a greater key
  pub leads_on : (fuel i j : ℕ)
      → AreOfOneBucket buckets seed A i j
      → key_at A i < key_at A j
      → key_at A j ≤ key_at A i + fuel
      → LeadsOn A i j
  leads_on zero i j one up near = absurd (omega (arith, up, near))
  leads_on (suc fuel) i j one up near =
      let t = m.next i j one up in
      let on = led holds buckets seed width count A m i t.to one.first t.leads in
      let higher = on.1.up in
      let rest : AreOfOneBucket buckets seed A t.to j = record {
        first = on.0;
        second = one.second;
        same = sym on.1.same ∙ one.same;
      } in
      ⊎_elim
      (λ (less : key_at A t.to < key_at A j).
      let further = leads_on fuel t.to j rest less (omega (arith, near, higher)) in record {
        begin = t.to;
        begins = t.leads;
        reached = onwards t.to further.begin further.begins further.reached;
      })
      (λ (past : key_at A j ≤ key_at A t.to).
      let close = t.near in record {
        begin = t.to;
        begins = t.leads;
        reached = arrived t.to (m.apart t.to j rest (omega (arith, past, close)));
      })
      (cases_lt (key_at A t.to) (key_at A j))

  -- a link of a live node leads to a live one
  leads_to_live : (from next : ℕ) → state_at A from ≡ Live → next_of A from ≡ suc next
      → state_at A next ≡ Live
  leads_to_live from next live leads =
      (led holds buckets seed width count A m from next live leads).0

  module _ (key : ℕ) (some : 0 < buckets) (room : 1 < width) (up : 0 < key) where
    pub is_linked : HasKey buckets A key → IsLinkedKey (bucket_of buckets seed key) key A
    is_linked has =
        let b = begins holds buckets seed width count A m key some room up in
        let is = has.1.is in
        let low = b.2 in
        let one : AreOfOneBucket buckets seed A (bucket_of buckets seed key) has.0 = record {
          first = b.0;
          second = has.1.entry.live;
          same = b.1
              ∙ sym (of_its_bucket holds buckets seed width count A m key has.0 up has.1);
        } in
        let on = leads_on key (bucket_of buckets seed key) has.0 one (omega (arith, is, low))
        (omega (arith, is)) in
        record {
          begin = on.begin;
          holder = has.0;
          begins = on.begins;
          reached = on.reached;
          has = is;
        }

    -- a node with the key to which the chain leads has an entry
    is_entry : (holder begin : ℕ) → next_of A (bucket_of buckets seed key) ≡ suc begin
        → Reaches A holder begin → key_at A holder ≡ key → IsEntry buckets A holder
    is_entry holder begin leads reached is =
        let b = begins holds buckets seed width count A m key some room up in
        let first = led holds buckets seed width count A m (bucket_of buckets seed key) begin b.0
        leads in
        record {
          behind = behind_roots holds buckets seed width count A m holder (omega (arith, is, up));
          live = live_reached A leads_to_live holder begin first.0 reached;
        }

    pub has_linked : IsLinkedKey (bucket_of buckets seed key) key A → HasKey buckets A key
    has_linked linked = (
      linked.holder,
      record {
        entry = is_entry linked.holder linked.begin linked.begins linked.reached linked.has;
        is = linked.has;
      },
    )

    pub entry_linked : (words : List ℕ) → key_in words ≡ key
        → AreLinkedWords (bucket_of buckets seed key) words A → HasEntry buckets A words
    entry_linked words keyed linked = record {
      node = linked.holder;
      entry = is_entry linked.holder linked.begin linked.begins linked.reached
          (ap key_in linked.are ∙ keyed);
      is = linked.are;
    }
