-- The entry of a key is as it was read, or another one.
use Rattle.std.proofs.Common.{◌≡◌, ◌∙◌, ℕ, List, ap, refl, sym}
use Rattle.rcu_graph.specs.Absence.{key_at}
use Rattle.rcu_graph.specs.Nodes.{node_at}
use Rattle.rcu_graph.specs.declared.known.Node.{Node}
use Rattle.rcu_map.specs.Chains.{IsMap}
use Rattle.rcu_map.specs.Compared.{IsAsRead}
use Rattle.rcu_map.specs.Entries.{HasKey, IsEntry, IsNodeOf}
use Rattle.rcu_map.specs.Keys.{key_in}
use Rattle.rcu_map.specs.Puts.{IsHolder}
use Rattle.rcu_map.specs.Words.{as_words}
use Rattle.rcu_map.proofs.Chains.{has_key, one_entry}

-- the entry of a node is as it was read, if it has the words
pub as_read : (buckets : ℕ) (A : List Node) (node : ℕ) (words : List ℕ) → IsEntry buckets A node
    → (node_at A node).words ≡ words → IsAsRead buckets A (key_at A node) words
as_read buckets A node words entry is = record {
  has = record { node = node; entry = entry; is = is };
  is = ap key_in (sym is);
}

-- and only there: no other entry has its key
pub same_words : (holds : List ℕ → Type 0) (buckets seed width count : ℕ) (A : List Node)
    → IsMap holds buckets seed width count A → (node : ℕ) (words : List ℕ)
    → IsEntry buckets A node
    → IsAsRead buckets A (key_at A node) words
    → (node_at A node).words ≡ words
same_words holds buckets seed width count A m node words entry read =
    let some = has_key holds buckets seed width count A m node entry.live entry.behind in
    let other : IsNodeOf buckets A (key_at A node) read.has.node = record {
      entry = read.has.entry;
      is = ap key_in read.has.is ∙ read.is;
    } in
    let own : IsNodeOf buckets A (key_at A node) node = record { entry = entry; is = refl } in
    ap (λ (i : ℕ). (node_at A i).words)
    (one_entry holds buckets seed width count A m (key_at A node) node read.has.node some own other)
    ∙ read.has.is

-- the words of a node are those of the entry that has its key
pub holder : (holds : List ℕ → Type 0) (buckets : ℕ) (A : List Node) (key node : ℕ)
    (words : List ℕ) → IsNodeOf buckets A key node → words ≡ (node_at A node).words → holds words
    → IsHolder as_words holds key_in buckets A key words
holder holds buckets A key node words one same whole = record {
  is = record {
    words = words;
    has = record { node = node; entry = one.entry; is = sym same };
    is = ap key_in same ∙ one.is;
    told = refl;
  };
  keyed = ap key_in same ∙ one.is;
  sound = whole;
}

-- an entry that is as it was read has its key
pub has_its_key : (buckets : ℕ) (A : List Node) (key : ℕ) (words : List ℕ)
    → IsAsRead buckets A key words → HasKey buckets A key
has_its_key buckets A key words was = (
  was.has.node,
  record { entry = was.has.entry; is = ap key_in was.has.is ∙ was.is },
)
