-- The rule for nodes that open sections hold.
use Rattle.std.proofs.Common.{◌≡◌, ◌≢◌, ℕ, suc, ◌+◌, ◌<◌, List, ◌∷◌, Bool, Option, length, refl}
use Rattle.std.proofs.Common.{set, sym, ap, ◌∙◌, subst, inl, inr, arith}
use Rattle.std.specs.Prelude.{IsTrue, slice_index}
use Rattle.std.proofs.lemmas.List.{get_or_append_left, get_or-append-add, get_or_past}
use mathlib.Core.Logic.{dite}
use mathlib.Core.Option.{some, some-injective}
use native.Mathlib.Decide.{dec_lt}
use lib.ListN.{get_elem?}
use Rattle.atomic_table.proofs.Lists.{set_else, set_here}
use Rattle.rcu_live.specs.Client.{ClientView, Views}
use Rattle.rcu_live.proofs.ClientRows.{at_inside, inside}
use Rattle.rcu_graph.specs.Absence.{IsChained, IsTrueOf}
use Rattle.rcu_graph.specs.Nodes.{IsHeld, IsOn, IsReader, IsUsed, MayRead, Outlives, hops_in}
use Rattle.rcu_graph.specs.Nodes.{no_node, node_at, place_of, row_of, state_at}
use Rattle.rcu_graph.specs.Rule.{IsKept, Leads, Reading}
use Rattle.rcu_graph.specs.Search.{Ascends}
use Rattle.rcu_graph.specs.Steps.{Followed, IsFollowed}
use Rattle.rcu_graph.specs.declared.known.Hop.{Hop}
use Rattle.rcu_graph.specs.declared.known.Known.{Known}
use Rattle.rcu_graph.specs.declared.known.Known.TheVariants.{Writer}
use Rattle.rcu_graph.specs.declared.known.Node.{Node}
use Rattle.rcu_graph.specs.declared.node_state.NodeState.{NodeState}
use Rattle.rcu_graph.specs.declared.node_state.NodeState.TheVariants.{Free, Live}
use Rattle.rcu_graph.proofs.Moves.{knows_held}
use Rattle.rcu_graph.proofs.States.{live_outlived, not_both}
use Rattle.rcu_graph.proofs.Tending.{at_here}

not_reader : (known : Known) (n : ℕ) (s : List Node) (b : List (List Node)) → known ≡ Writer n s b
    → IsReader known → ⊥
not_reader known n s b e reads = subst IsReader e reads

module _ (fits : List ℕ → Type 0) (joins : ℕ → List ℕ → List ℕ → Type 0) (first : ℕ → List ℕ)
    (roots links width count : ℕ) where
  holds_it : (ws : List ℕ) (xs : Views Known)
      (h : IsKept fits joins first roots links width count ws xs) (id i : ℕ)
      (cpu section : Option ℕ) (known : Known) (words : List ℕ)
      → get_elem? xs id ≡ some (cpu, section, known)
      → IsReader known
      → IsHeld known i words
      → Reading h.nodes section i words
  holds_it ws xs h id i cpu section known words at reads held =
      knows_held fits joins first roots links width count h.nodes h.latest h.writer id section known
      reads (h.seats id cpu section known at) i words held

  word_held : (ws : List ℕ) (xs : Views Known)
      (h : IsKept fits joins first roots links width count ws xs) (id i k : ℕ)
      (cpu section : Option ℕ) (known : Known) (words : List ℕ)
      → get_elem? xs id ≡ some (cpu, section, known)
      → IsReader known
      → IsHeld known i words
      → k < width
      → slice_index ws (place_of roots links width i (links + k)) ≡ slice_index words k
  word_held ws xs h id i k cpu section known words at reads held low =
      let r = holds_it ws xs h id i cpu section known words at reads held in
      let many : length r.on.links ≡ links = h.kept.linked i r.on r.here in
      h.kept.written i r.on r.here (links + k) (omega (arith, low))
      ∙ (ap (λ (m : ℕ). slice_index (row_of r.on) (m + k)) (sym many)
      ∙ (get_or-append-add r.on.links r.on.words k 0 ∙ ap (λ (l : List ℕ). slice_index l k) r.same))

  pub words_kept : (before after : List ℕ) (xs ys : Views Known)
      (id i k : ℕ) (cpu section here later : Option ℕ) (was now : Known) (words : List ℕ)
      → IsKept fits joins first roots links width count before xs
      → IsKept fits joins first roots links width count after ys
      → get_elem? xs id ≡ some (cpu, section, was)
      → get_elem? ys id ≡ some (here, later, now)
      → IsReader was
      → IsReader now
      → IsHeld was i words
      → IsHeld now i words
      → k < width
      → slice_index after (place_of roots links width i (links + k))
      ≡ slice_index before (place_of roots links width i (links + k))
  words_kept before after xs ys id i k cpu section here later was now words h h' at at'
      reads reads' held held' low =
      word_held after ys h' id i k here later now words at' reads' held' low
      ∙ sym (word_held before xs h id i k cpu section was words at reads held low)

  pub not_held : (table : List ℕ) (xs : Views Known)
      (writer id i latest : ℕ) (who own cpu section : Option ℕ) (nodes : List Node)
      (stored : List (List Node)) (known : Known)
      (words : List ℕ) (v : Node)
      → IsKept fits joins first roots links width count table xs
      → get_elem? xs writer ≡ some (who, own, Writer latest nodes stored)
      → get_elem? xs id ≡ some (cpu, section, known)
      → IsReader known
      → IsHeld known i words
      → get_elem? nodes i ≡ some v
      → v.state ≢ Free
  not_held table xs writer id i latest who own cpu section nodes stored known words v h kept
      at
      reads held is free =
      let r = holds_it table xs h id i cpu section known words at reads held in
      let k = h.seats writer who own (Writer latest nodes stored) kept in
      let same : v ≡ r.on =
      some-injective _ _ (sym is ∙ (ap (λ (s : List Node). get_elem? s i) k.1 ∙ r.here)) in
      subst (λ (st : NodeState). MayRead r.opened st) (sym (ap (λ (x : Node). x.state) same) ∙ free)
      r.may

  pub as_known : (table : List ℕ) (xs : Views Known)
      (writer id i latest : ℕ) (who own cpu section : Option ℕ) (nodes : List Node)
      (stored : List (List Node)) (known : Known)
      (words : List ℕ) (v : Node)
      → IsKept fits joins first roots links width count table xs
      → get_elem? xs writer ≡ some (who, own, Writer latest nodes stored)
      → get_elem? xs id ≡ some (cpu, section, known)
      → IsReader known
      → IsHeld known i words
      → get_elem? nodes i ≡ some v
      → v.words ≡ words
  as_known table xs writer id i latest who own cpu section nodes stored known words v h kept
      at
      reads held is =
      let r = holds_it table xs h id i cpu section known words at reads held in
      let k = h.seats writer who own (Writer latest nodes stored) kept in
      let same : v ≡ r.on =
      some-injective _ _ (sym is ∙ (ap (λ (s : List Node). get_elem? s i) k.1 ∙ r.here)) in
      ap (λ (x : Node). x.words) same ∙ r.same

  -- the words with which a section holds a node are those that the writer knows of it
  pub held_words : (table : List ℕ) (xs : Views Known)
      (writer id i latest : ℕ) (who own cpu section : Option ℕ) (nodes : List Node)
      (stored : List (List Node)) (known : Known) (words : List ℕ)
      → IsKept fits joins first roots links width count table xs
      → get_elem? xs writer ≡ some (who, own, Writer latest nodes stored)
      → get_elem? xs id ≡ some (cpu, section, known)
      → IsReader known
      → IsHeld known i words
      → (node_at nodes i).words ≡ words
  held_words table xs writer id i latest who own cpu section nodes stored known words h kept at
      reads held =
      let r = holds_it table xs h id i cpu section known words at reads held in
      let k = h.seats writer who own (Writer latest nodes stored) kept in
      let same : node_at nodes i ≡ r.on =
      ap (λ (s : List Node). node_at s i) k.1 ∙ at_here h.nodes i r.on r.here in
      ap (λ (x : Node). x.words) same ∙ r.same

  pub live_leads : (table : List ℕ) (xs : Views Known)
      (writer i l j latest : ℕ) (who own : Option ℕ) (nodes : List Node)
      (stored : List (List Node)) (v : Node)
      → IsKept fits joins first roots links width count table xs
      → get_elem? xs writer ≡ some (who, own, Writer latest nodes stored)
      → get_elem? nodes i ≡ some v
      → v.state ≡ Live
      → l < links
      → slice_index table (place_of roots links width i l) ≡ suc j
      → (to : Node) × (get_elem? nodes j ≡ some to) × (to.state ≡ Live) × joins l v.words to.words
  live_leads table xs writer i l j latest who own nodes stored v h kept at live low link =
      let k = h.seats writer who own (Writer latest nodes stored) kept in
      let here : get_elem? h.nodes i ≡ some v =
      ap (λ (s : List Node). get_elem? s i) (sym k.1) ∙ at in
      let many : length v.links ≡ links = h.kept.linked i v here in
      let is : slice_index v.links l ≡ suc j =
      sym (h.kept.written i v here l (omega (arith, low))
      ∙ get_or_append_left v.links v.words 0 l (omega (arith, low, many)))
      ∙ link in
      let d : Leads joins h.nodes v l j =
      h.kept.led i v here (subst IsUsed (sym live) tt) l j low is in (
        d.to,
        ap (λ (s : List Node). get_elem? s j) k.1 ∙ d.here,
        live_outlived d.to.state (subst (λ (st : NodeState). Outlives st d.to.state) live d.lasts),
        d.joined,
      )

  -- a node on which a section is, is one of the nodes
  on_node : (ws : List ℕ) (xs : Views Known)
      (h : IsKept fits joins first roots links width count ws xs) (id i : ℕ)
      (cpu section : Option ℕ) (known : Known) (words : List ℕ)
      → get_elem? xs id ≡ some (cpu, section, known)
      → IsReader known
      → IsOn first roots known i words
      → (v : Node) × (get_elem? h.nodes i ≡ some v)
  on_node ws xs h id i cpu section known words at reads (inl root) =
      let r = h.kept.rooted i root.0 in (r.0, r.1)
  on_node ws xs h id i cpu section known words at reads (inr held) =
      let r = holds_it ws xs h id i cpu section known words at reads held in (r.on, r.here)

  -- a hop was true of the nodes at its load, which the writer knows right after it still
  pub hop_true_then : (table later_table : List ℕ)
      (xs ys : Views Known) (writer id i l latest : ℕ) (who own cpu section : Option ℕ)
      (later_who later_own later_cpu later_section : Option ℕ) (nodes : List Node)
      (stored : List (List Node)) (was now : Known) (words : List ℕ)
      → IsKept fits joins first roots links width count table xs
      → IsKept fits joins first roots links width count later_table ys
      → get_elem? xs writer ≡ some (who, own, Writer latest nodes stored)
      → get_elem? ys writer ≡ some (later_who, later_own, Writer latest nodes stored)
      → get_elem? xs id ≡ some (cpu, section, was)
      → get_elem? ys id ≡ some (later_cpu, later_section, now)
      → IsReader was
      → IsOn first roots was i words
      → l < links
      → IsFollowed fits joins first roots links width count (place_of roots links width i l) was
      (slice_index table (place_of roots links width i l)) now
      → (hop : Hop)
      × (hops_in now ≡ hop ∷ hops_in was)
      × (hop.from ≡ i)
      × (hop.link ≡ l)
      × IsTrueOf nodes hop
  hop_true_then table later_table xs ys writer id i l latest who own cpu section
      later_who later_own later_cpu later_section nodes stored was now words h h' kept still at then
      reads on low told =
      let x : ℕ = slice_index table (place_of roots links width i l) in
      let f : Followed fits (joins l words) width count was i l x now =
      told i l words low refl on in
      let hop : Hop = record { from = i; link = l; to = x; words = f.words } in
      let k = h.seats writer who own (Writer latest nodes stored) kept in
      let there = on_node table xs h id i cpu section was words at reads on in
      let many : length there.0.links ≡ links = h.kept.linked i there.0 there.1 in
      let found : x ≡ slice_index there.0.links l =
      h.kept.written i there.0 there.1 l (omega (arith, low))
      ∙ get_or_append_left there.0.links there.0.words 0 l (omega (arith, low, many)) in
      let node : node_at nodes i ≡ there.0 =
      ap (λ (s : List Node). node_at s i) k.1 ∙ at_here h.nodes i there.0 there.1 in (
        hop,
        ap hops_in f.is,
        refl,
        refl,
        record { to = found ∙ ap (λ (v : Node). slice_index v.links l) (sym node); words = came f },
      )
    where
      came : (f : Followed fits (joins l words) width count was i l
          (slice_index table (place_of roots links width i l)) now) (j : ℕ)
          → slice_index table (place_of roots links width i l) ≡ suc j
          → f.words ≡ (node_at nodes j).words
      came f j e =
          let known = h'.seats writer later_who later_own (Writer latest nodes stored) still in
          let held : IsHeld now j f.words = subst (λ (k : Known). IsHeld k j f.words) (sym f.is) (
            0,
            record {
              from = i;
              link = l;
              to = slice_index table (place_of roots links width i l);
              words = f.words;
            },
            refl,
            e,
            refl,
          ) in
          let r : Reading h'.nodes later_section j f.words = holds_it later_table ys h'
          id j later_cpu later_section now f.words then (subst IsReader (sym f.is) tt) held in
          sym (ap (λ (v : Node). v.words)
          (ap (λ (s : List Node). node_at s j) known.1 ∙ at_here h'.nodes j r.on r.here)
          ∙ r.same)

  pub hop_true : (table : List ℕ) (xs : Views Known)
      (writer id i l latest : ℕ) (who own cpu section : Option ℕ) (nodes : List Node)
      (stored : List (List Node)) (was now : Known) (words : List ℕ)
      → IsKept fits joins first roots links width count table xs
      → IsKept fits joins first roots links width count table (set xs id (cpu, section, now))
      → get_elem? xs writer ≡ some (who, own, Writer latest nodes stored)
      → get_elem? xs id ≡ some (cpu, section, was)
      → IsReader was
      → IsOn first roots was i words
      → l < links
      → IsFollowed fits joins first roots links width count (place_of roots links width i l) was
      (slice_index table (place_of roots links width i l)) now
      → (hop : Hop)
      × (hops_in now ≡ hop ∷ hops_in was)
      × (hop.from ≡ i)
      × (hop.link ≡ l)
      × IsTrueOf nodes hop
  hop_true table xs writer id i l latest who own cpu section nodes stored was now words h h'
      kept at reads on low told =
      let apart : writer ≢ id = λ same. not_reader was latest nodes stored
      (ap (λ (y : ClientView Known). y.2)
      (some-injective _ _ (sym at ∙ (ap (λ (n : ℕ). get_elem? xs n) (sym same) ∙ kept))))
      reads in
      hop_true_then table table xs (set xs id (cpu, section, now)) writer id i l latest
      who own cpu section who own cpu section nodes stored was now words h h' kept
      (set_else xs id writer (cpu, section, now) apart ∙ kept) at
      (set_here xs id (cpu, section, now) (inside xs id (cpu, section, was) at)) reads on low told

  -- at each moment the nodes are chained, if the keys go up and a link stays in its chain
  pub chains : (ours : List ℕ → Bool) (root : ℕ) (table : List ℕ)
      (xs : Views Known) (writer latest : ℕ) (who own : Option ℕ) (nodes : List Node)
      (stored : List (List Node))
      → IsKept fits joins first roots links width count table xs
      → get_elem? xs writer ≡ some (who, own, Writer latest nodes stored)
      → Ascends joins 0
      → ((from to : List ℕ) → joins 0 from to → IsTrue (ours from) → IsTrue (ours to))
      → root < roots
      → 0 < links
      → IsTrue (ours (first root))
      → IsChained ours root nodes
  chains ours root table xs writer latest who own nodes stored h kept up stays low some_link
      mine =
      let k = h.seats writer who own (Writer latest nodes stored) kept in
      let r = h.kept.rooted root low in
      let here : node_at nodes root ≡ r.0 =
      ap (λ (s : List Node). node_at s root) k.1 ∙ at_here h.nodes root r.0 r.1 in
      record {
        rooted = ap (λ (v : Node). v.state) here ∙ r.2;
        own = subst (λ (words : List ℕ). IsTrue (ours words))
            (sym (ap (λ (v : Node). v.words) here ∙ r.3)) mine;
        live = λ i j live link. (next i j live link).0;
        ascends = λ i j live link.
            up (node_at nodes i).words (node_at nodes j).words (next i j live link).1;
        stays = λ i j live link.
            stays (node_at nodes i).words (node_at nodes j).words (next i j live link).1;
      }
    where
      there : (i : ℕ) → state_at nodes i ≡ Live → get_elem? nodes i ≡ some (node_at nodes i)
      there i live = dite (dec_lt i (length nodes))
          (λ (inner : i < length nodes). at_inside nodes i no_node inner)
          (λ (past : i < length nodes → ⊥). absurd (not_both (state_at nodes i) live
          (ap (λ (v : Node). v.state) (get_or_past nodes i no_node (omega (arith, past))))))

      next : (i j : ℕ) → state_at nodes i ≡ Live → slice_index (node_at nodes i).links 0 ≡ suc j
          → (state_at nodes j ≡ Live) × joins 0 (node_at nodes i).words (node_at nodes j).words
      next i j live link =
          let k = h.seats writer who own (Writer latest nodes stored) kept in
          let at : get_elem? h.nodes i ≡ some (node_at nodes i) =
          ap (λ (s : List Node). get_elem? s i) (sym k.1) ∙ there i live in
          let many : length (node_at nodes i).links ≡ links =
          h.kept.linked i (node_at nodes i) at in
          let word : slice_index table (place_of roots links width i 0) ≡ suc j =
          h.kept.written i (node_at nodes i) at 0 (omega (arith, some_link))
          ∙ (get_or_append_left (node_at nodes i).links (node_at nodes i).words 0 0
          (omega (arith, some_link, many))
          ∙ link) in
          let t = live_leads table xs writer i 0 j latest who own nodes stored
          (node_at nodes i) h
          kept (there i live) live some_link word in
          let to : node_at nodes j ≡ t.0 = at_here nodes j t.0 t.1 in (
            ap (λ (v : Node). v.state) to ∙ t.2,
            subst (λ (v : Node). joins 0 (node_at nodes i).words v.words) (sym to) t.3,
          )
