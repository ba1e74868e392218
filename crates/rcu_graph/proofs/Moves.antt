-- Each step on the nodes keeps the rule, and has its relation.
use Rattle.std.proofs.Common.{◌≡◌, ◌≢◌, ◌⊎◌, ℕ, zero, suc, ◌+◌, ◌<◌, ◌≤◌, List, [], ◌∷◌, length}
use Rattle.std.proofs.Common.{set, Some, Option, refl, sym, ap, ◌∙◌, subst, inl, inr, arith}
use Rattle.std.proofs.Common.{length-set}
use Rattle.std.specs.Prelude.{slice_index, max}
use Rattle.std.proofs.Math.Nat.{le-max_left, le-max_right}
use Rattle.std.proofs.lemmas.List.{get_or_append_left, get_or-append-add, get_or-set_other}
use Rattle.std.proofs.lemmas.List.{set-get_or, set-set}
use Rattle.std.proofs.lemmas.Option.{same_Some}
use Rattle.std.proofs.Math.Nat.{suc_inj}
use mathlib.Core.Option.{some, some-injective, some-ne-none}
use mathlib.Core.Logic.{dite}
use native.Mathlib.Decide.{ℕ_discrete}
use lib.ListN.{get_elem?}
use Rattle.atomic_table.proofs.Lists.{at_map, set_here, set_else}
use Rattle.rcu_live.specs.Client.{Views, AllowsNumber, AllowsWord}
use Rattle.rcu_live.proofs.ClientRows.{at_inside, inside, reseat}
use Rattle.rcu_graph.specs.Nodes.{IsHeld, IsOn, IsReader, IsTarget, IsUnlinked, MayRead, after_hop}
use Rattle.rcu_graph.specs.Nodes.{first_nodes, hops_in, in_state, linked_to, no_node, node_at}
use Rattle.rcu_graph.specs.Nodes.{place_of, reclaimed, reclaimed_node, renewed, row_of, worded}
use Rattle.rcu_graph.specs.Rule.{AreKept, IsKept, Knows, Leads, Reading}
use Rattle.rcu_graph.specs.Stability.{SeatKnows, one_changes}
use Rattle.rcu_graph.specs.Steps.{Followed, IsClaimed, IsFollowed, IsMarkedUnlinked, IsPublished}
use Rattle.rcu_graph.specs.Steps.{IsRead, IsReclaimed, IsWritten}
use Rattle.rcu_graph.specs.declared.known.Hop.{Hop}
use Rattle.rcu_graph.specs.declared.known.Known.{Known}
use Rattle.rcu_graph.specs.declared.known.Known.TheVariants.{Idle, Owner, Reader, Writer}
use Rattle.rcu_graph.specs.declared.known.Node.{Node}
use Rattle.rcu_graph.specs.declared.node_state.NodeState.TheVariants.{Free, Live, Unlinked}
use Rattle.rcu_graph.proofs.Changes.{link_stored, node_unlinked, nodes_reclaimed, promoted}
use Rattle.rcu_graph.proofs.Changes.{word_stored}
use Rattle.rcu_graph.proofs.Cells.{told}
use Rattle.rcu_graph.proofs.States.{may_follow, may_is_used, may_reclaimed, not_both}

module _ (fits : List ℕ → Type 0) (joins : ℕ → List ℕ → List ℕ → Type 0) (first : ℕ → List ℕ)
    (roots links width count : ℕ) where
  -- a reader's knowledge about each node that it holds
  pub knows_held : (nodes : List Node) (latest writer id : ℕ) (section : Option ℕ) (known : Known)
      → IsReader known
      → Knows first roots links width count nodes latest writer id section known
      → (i : ℕ) (words : List ℕ)
      → IsHeld known i words
      → Reading nodes section i words
  knows_held nodes latest writer id section Idle reads k i words h =
      absurd (some-ne-none h.1 (sym h.2))
  knows_held nodes latest writer id section Owner reads k i words h = absurd reads
  knows_held nodes latest writer id section (Reader hops) reads k i words h = k i words h
  knows_held nodes latest writer id section (Writer l s b) reads k i words h = absurd reads

  -- and after one more hop
  one_more : (nodes : List Node) (section : Option ℕ) (hop : Hop) (hops : List Hop)
      → ((j : ℕ) → hop.to ≡ suc j → Reading nodes section j hop.words)
      → ((i : ℕ) (words : List ℕ) → IsHeld (Reader hops) i words → Reading nodes section i words)
      → (i : ℕ) (words : List ℕ)
      → IsHeld (Reader (hop ∷ hops)) i words
      → Reading nodes section i words
  one_more nodes section hop hops mine others i words h = at h.0 h.1 h.2 h.3 h.4
    where
      at : (k : ℕ) (x : Hop) → get_elem? (hop ∷ hops) k ≡ some x → x.to ≡ suc i → x.words ≡ words
          → Reading nodes section i words
      at zero x e to is =
          let same : hop ≡ x = some-injective _ _ e in
          subst (Reading nodes section i) (ap (λ (y : Hop). y.words) same ∙ is)
          (mine i (ap (λ (y : Hop). y.to) same ∙ to))
      at (suc k) x e to is = others i words (k, x, e, to, is)

  -- a node on which a section is, with the words that it has there
  is_on : (ws : List ℕ) (nodes : List Node) (latest writer id at i : ℕ) (known : Known)
      (words : List ℕ)
      → AreKept fits joins first roots links width count ws nodes latest
      → IsReader known
      → Knows first roots links width count nodes latest writer id (Some at) known
      → IsOn first roots known i words
      → (v : Node) × (get_elem? nodes i ≡ some v) × (v.words ≡ words) × MayRead at v.state
  is_on ws nodes latest writer id at i known words kept reads k (inl on) =
      let r = kept.rooted i on.0 in (r.0, r.1, r.3 ∙ on.1, subst (MayRead at) (sym r.2) tt)
  is_on ws nodes latest writer id at i known words kept reads k (inr on) =
      let r : Reading nodes (Some at) i words =
      knows_held nodes latest writer id (Some at) known reads k i words on in (
        r.on,
        r.here,
        r.same,
        subst (λ (n : ℕ). MayRead n r.on.state) (sym (same_Some at r.opened r.is_open)) r.may,
      )

  -- no new knowledge
  stays : (ws : List ℕ) (xs : Views Known)
      (h : IsKept fits joins first roots links width count ws xs) (id : ℕ)
      (cpu section : Option ℕ) (known : Known)
      → get_elem? xs id ≡ some (cpu, section, known)
      → IsKept fits joins first roots links width count ws (set xs id (cpu, section, known))
  stays ws xs h id cpu section known at = one_changes fits joins first roots links width count
      ws xs h id (cpu, section, known) (h.seats id cpu section known at)

  -- a link of a node on which a section is: the section makes a hop, and may be on the node to
  -- which it leads
  comes : (ws : List ℕ) (xs : Views Known)
      (h : IsKept fits joins first roots links width count ws xs) (id : ℕ) (cpu : Option ℕ)
      (at : ℕ) (was : Known) (i l : ℕ) (v : Node) (words : List ℕ)
      → get_elem? xs id ≡ some (cpu, Some at, was)
      → IsReader was
      → get_elem? h.nodes i ≡ some v
      → v.words ≡ words
      → MayRead at v.state
      → l < links
      → (after : Known)
      × IsKept fits joins first roots links width count ws (set xs id (cpu, Some at, after))
      × Followed fits (joins l words) width count was i l
      (slice_index ws (place_of roots links width i l)) after
  comes ws xs h id cpu at was i l v words there reads here same may low =
      let x : ℕ = slice_index ws (place_of roots links width i l) in
      let many : length v.links ≡ links = h.kept.linked i v here in
      let found : x ≡ slice_index v.links l =
      h.kept.written i v here l (omega (arith, low))
      ∙ get_or_append_left v.links v.words 0 l (omega (arith, low, many)) in
      leads x (sym found)
    where
      k : Knows first roots links width count h.nodes h.latest h.writer id (Some at) was
      k = h.seats id cpu (Some at) was there

      leads : (x : ℕ)
          → slice_index v.links l ≡ x
          → (after : Known)
          × IsKept fits joins first roots links width count ws
          (set xs id (cpu, Some at, after))
          × Followed fits (joins l words) width count was i l x after
      leads zero is =
          let after : Known = after_hop was i l zero [] in (
            after,
            one_changes fits joins first roots links width count ws xs h id
                (cpu, Some at, after)
                (one_more h.nodes (Some at) (record { from = i; link = l; to = zero; words = [] })
                (hops_in was) (λ j e. absurd (omega (arith, e)))
                (knows_held h.nodes h.latest h.writer id (Some at) was reads k)),
            record { words = []; is = refl; led = inl (refl, refl) },
          )
      leads (suc j) is =
          let d : Leads joins h.nodes v l j =
          h.kept.led i v here (may_is_used at v.state may) l j low is in
          let may_to : MayRead at d.to.state = may_follow at v.state d.to.state d.lasts may in
          let hop : Hop = record { from = i; link = l; to = suc j; words = d.to.words } in
          let after : Known = after_hop was i l (suc j) d.to.words in
          let mine : Reading h.nodes (Some at) j d.to.words = record {
            opened = at;
            is_open = refl;
            on = d.to;
            here = d.here;
            same = refl;
            may = may_to;
          } in
          let all : (i : ℕ) (words : List ℕ) → IsHeld after i words
          → Reading h.nodes (Some at) i words =
          one_more h.nodes (Some at) hop (hops_in was)
          (λ m e. subst (λ (n : ℕ). Reading h.nodes (Some at) n d.to.words) (suc_inj e) mine)
          (knows_held h.nodes h.latest h.writer id (Some at) was reads k) in
          let bound : j < length h.nodes = inside h.nodes j d.to d.here in (
            after,
            one_changes fits joins first roots links width count ws xs h id
                (cpu, Some at, after) all,
            record {
              words = d.to.words;
              is = refl;
              led = inr (
                j,
                refl,
                record {
                  inside = omega (arith, bound, h.kept.few);
                  size = h.kept.sized j d.to d.here;
                  whole = h.kept.whole j d.to d.here (may_is_used at d.to.state may_to);
                  joined = subst (λ (ws : List ℕ). joins l ws d.to.words) same d.joined;
                },
              );
            },
          )

  -- the load of a link
  pub follows : (cpu : Option ℕ) (at : ℕ) (was : Known) (i l : ℕ) (words : List ℕ)
      → IsReader was
      → IsOn first roots was i words
      → l < links
      → AllowsWord (IsKept fits joins first roots links width count) cpu (Some at) was
      (place_of roots links width i l) (λ n. n)
      (IsFollowed fits joins first roots links width count (place_of roots links width i l) was)
  follows cpu at was i l words reads on low n ws xs id h are lone there =
      let p : ℕ = place_of roots links width i l in
      let o = is_on ws h.nodes h.latest h.writer id at i was words h.kept reads
      (h.seats id cpu (Some at) was there) on in
      let t = comes ws xs h id cpu at was i l o.0 words there reads o.1 o.2 o.3 low in (
        t.0,
        subst (λ (cells : List ℕ). IsKept fits joins first roots links width count cells
            (set xs id (cpu, Some at, t.0)))
            (sym (set-get_or ws p 0)) t.1,
        λ i' l' words' low' e on'.
            let cell = told roots links width i i' l l' (omega (arith, low))
            (omega (arith, low')) e in
            let one : i ≡ i' = cell.0 in
            let two : l ≡ l' = cell.1 in
            let o' = is_on ws h.nodes h.latest h.writer id at i' was words' h.kept reads
            (h.seats id cpu (Some at) was there) on' in
            let node : o.0 ≡ o'.0 =
            some-injective _ _ (sym o.1 ∙ (ap (λ (m : ℕ). get_elem? h.nodes m) one ∙ o'.1)) in
            let three : words ≡ words' = sym o.2 ∙ (ap (λ (x : Node). x.words) node ∙ o'.2) in
            subst (λ (y : ℕ × ℕ × List ℕ).
            Followed fits (joins y.1 y.2) width count was y.0 y.1 (slice_index ws p) t.0)
            (λ z. (one z, two z, three z)) t.2,
      )

  -- the load of a word
  pub reads_word : (cpu : Option ℕ) (at : ℕ) (was : Known) (i k : ℕ) (words : List ℕ)
      → IsReader was
      → IsOn first roots was i words
      → k < width
      → AllowsWord (IsKept fits joins first roots links width count) cpu (Some at) was
      (place_of roots links width i (links + k)) (λ n. n)
      (IsRead first roots links width (place_of roots links width i (links + k)) was)
  reads_word cpu at was i k words reads on low n ws xs id h are lone there =
      let p : ℕ = place_of roots links width i (links + k) in
      let knows = h.seats id cpu (Some at) was there in (
        was,
        subst (λ (cells : List ℕ). IsKept fits joins first roots links width count cells
            (set xs id (cpu, Some at, was)))
            (sym (set-get_or ws p 0)) (stays ws xs h id cpu (Some at) was there),
        (
          refl,
          λ i' k' words' low' e on'.
              let cell = told roots links width i i' (links + k) (links + k') (omega (arith, low))
              (omega (arith, low')) e in
              let one : i ≡ i' = cell.0 in
              let two : links + k ≡ links + k' = cell.1 in
              let o =
              is_on ws h.nodes h.latest h.writer id at i' was words' h.kept reads knows on' in
              let many : length o.0.links ≡ links = h.kept.linked i' o.0 o.1 in
              let here : slice_index ws p ≡ slice_index (row_of o.0) (links + k') =
              ap (λ (m : ℕ). slice_index ws m) e
              ∙ h.kept.written i' o.0 o.1 (links + k') (omega (arith, low')) in
              here
              ∙ (ap (λ (m : ℕ). slice_index (row_of o.0) (m + k')) (sym many)
              ∙ (get_or-append-add o.0.links o.0.words k' 0
              ∙ ap (λ (l : List ℕ). slice_index l k') o.2)),
        ),
      )

  -- the writer's step: the nodes become these, and a section on one of them stays on it
  rekeep : (ws new : List ℕ) (xs : Views Known)
      (h : IsKept fits joins first roots links width count ws xs) (id : ℕ)
      (cpu section : Option ℕ) (known : Known)
      → get_elem? xs id ≡ some (cpu, section, known)
      → h.writer ≡ id
      → (t : ℕ) (s : List Node) (stored : List (List Node))
      → AreKept fits joins first roots links width count new s t
      → ((j at i : ℕ) (who : Option ℕ) (d : Known) (u : Node)
      → get_elem? xs j ≡ some (who, Some at, d) → get_elem? h.nodes i ≡ some u → MayRead at u.state
      → (w : Node) × (get_elem? s i ≡ some w) × (w.words ≡ u.words) × MayRead at w.state)
      → IsKept fits joins first roots links width count new
      (set xs id (cpu, section, Writer t s stored))
  rekeep ws new xs h id cpu section known at is_writer t s stored kept goes = record {
    nodes = s;
    latest = t;
    writer = id;
    kept = kept;
    seats = λ j who o d e. reseat (SeatKnows first roots links width count s t id) xs id
        (cpu, section, Writer t s stored) (refl, refl, refl)
        (λ i y apart f. other i y.0 y.1 y.2 apart f (h.seats i y.0 y.1 y.2 f)) j (who, o, d) e;
  }
    where
      other : (j : ℕ) (who o : Option ℕ) (d : Known) → j ≢ id → get_elem? xs j ≡ some (who, o, d)
          → Knows first roots links width count h.nodes h.latest h.writer j o d
          → Knows first roots links width count s t id j o d
      other j who o Idle apart e k = tt
      other j who o Owner apart e k = absurd (apart (sym k.2 ∙ is_writer))
      other j who o (Reader hops) apart e k = λ i words held.
          let r : Reading h.nodes o i words = k i words held in
          let q = goes j r.opened i who (Reader hops) r.on
          (subst (λ (z : Option ℕ). get_elem? xs j ≡ some (who, z, Reader hops)) r.is_open e) r.here
          r.may in
          record {
            opened = r.opened;
            is_open = r.is_open;
            on = q.0;
            here = q.1;
            same = q.2 ∙ r.same;
            may = q.3;
          }
      other j who o (Writer c l b) apart e k = absurd (apart (sym k.2 ∙ is_writer))

  -- the same if one node changes
  renews : (ws new : List ℕ) (xs : Views Known)
      (h : IsKept fits joins first roots links width count ws xs) (id : ℕ)
      (cpu section : Option ℕ) (t : ℕ) (s : List Node) (b stored : List (List Node)) (i : ℕ)
      (v w : Node)
      → get_elem? xs id ≡ some (cpu, section, Writer t s b)
      → get_elem? s i ≡ some v
      → (AreKept fits joins first roots links width count ws s t → AreKept fits joins first roots
      links width count new (set s i w) t)
      → ((at : ℕ) → MayRead at v.state → (w.words ≡ v.words) × MayRead at w.state)
      → IsKept fits joins first roots links width count new
      (set xs id (cpu, section, Writer t (set s i w) stored))
  renews ws new xs h id cpu section t s b stored i v w there at keeps stay =
      let k = h.seats id cpu section (Writer t s b) there in
      let was : AreKept fits joins first roots links width count ws s t =
      subst (λ (y : List Node × ℕ). AreKept fits joins first roots links width count ws y.0 y.1)
      (λ z. (sym k.1 z, sym k.0 z)) h.kept in
      rekeep ws new xs h id cpu section (Writer t s b) there k.2 t (set s i w) stored
      (keeps was)
      (λ j a q who d u e here may. dite (ℕ_discrete q i)
      (λ (is : q ≡ i).
      let same : u ≡ v = some-injective _ _
      (sym here
      ∙ (ap (λ (l : List Node). get_elem? l q) (sym k.1)
      ∙ (ap (λ (m : ℕ). get_elem? s m) is ∙ at))) in
      let y = stay a (subst (λ (x : Node). MayRead a x.state) same may) in (
        w,
        ap (λ (m : ℕ). get_elem? (set s i w) m) is ∙ set_here s i w (inside s i v at),
        y.0 ∙ ap (λ (x : Node). x.words) (sym same),
        y.1,
      ))
      (λ (ne : q ≢ i). (
        u,
        set_else s i q w ne ∙ (ap (λ (l : List Node). get_elem? l q) k.1 ∙ here),
        refl,
        may,
      )))

  -- a word of a free node is stored
  pub writes : (cpu section : Option ℕ) (t i k x : ℕ) (s : List Node) (b : List (List Node))
      → i < length s
      → (node_at s i).state ≡ Free
      → k < width
      → AllowsWord (IsKept fits joins first roots links width count) cpu section (Writer t s b)
      (place_of roots links width i (links + k)) (λ _. x)
      (λ _ now. IsWritten roots links width (place_of roots links width i (links + k))
      (Writer t s b) x now)
  writes cpu section t i k x s b bound free low n ws xs id h are lone there =
      let v : Node = node_at s i in
      let at : get_elem? s i ≡ some v = at_inside s i no_node bound in (
        Writer t (set s i (worded k x v)) b,
        renews ws (set ws (place_of roots links width i (links + k)) x) xs h id cpu section t s
            b b i v (worded k x v) there at
            (λ was.
            word_stored fits joins first roots links width count ws s t i k x v was at low free)
            (λ a may. absurd (subst (MayRead a) free may)),
        λ i' k' low' e.
            let cell = told roots links width i i' (links + k) (links + k') (omega (arith, low))
            (omega (arith, low')) e in
            let one : i ≡ i' = cell.0 in
            let both : links + k ≡ links + k' = cell.1 in
            let two : k ≡ k' = omega (arith, both) in
            ap (λ (y : ℕ × ℕ). Writer t (renewed s y.0 (worded y.1 x)) b) (λ z. (one z, two z)),
      )

  -- a link is stored: of a free node, or of a live one, which then leads nowhere or to a live one.
  -- The writer then has this knowledge about such stores
  pub links_to : (cpu section : Option ℕ) (t i l x : ℕ) (s : List Node) (b : List (List Node))
      (stored : List Node → List (List Node))
      → i < length s
      → l < links
      → ((node_at s i).state ≡ Free)
      ⊎ (((node_at s i).state ≡ Live) × IsTarget (joins l) (node_at s i).words s x)
      → AllowsWord (IsKept fits joins first roots links width count) cpu section (Writer t s b)
      (place_of roots links width i l) (λ _. x)
      (λ _ now. (i' l' : ℕ) → l' < links
      → place_of roots links width i l ≡ place_of roots links width i' l'
      → now ≡ Writer t (renewed s i' (linked_to l' x)) (stored (renewed s i' (linked_to l' x))))
  links_to cpu section t i l x s b stored bound low allowed n ws xs id h are lone there =
      let v : Node = node_at s i in
      let at : get_elem? s i ≡ some v = at_inside s i no_node bound in (
        Writer t (set s i (linked_to l x v)) (stored (set s i (linked_to l x v))),
        renews ws (set ws (place_of roots links width i l) x) xs h id cpu section t s b
            (stored (set s i (linked_to l x v))) i v (linked_to l x v) there at
            (λ was.
            link_stored fits joins first roots links width count ws s t i l x v was at low allowed)
            (λ a may. (refl, may)),
        λ i' l' low' e.
            let cell = told roots links width i i' l l' (omega (arith, low))
            (omega (arith, low')) e in
            let one : i ≡ i' = cell.0 in
            let two : l ≡ l' = cell.1 in
            ap (λ (y : ℕ × ℕ). Writer t (renewed s y.0 (linked_to y.1 x))
            (stored (renewed s y.0 (linked_to y.1 x)))) (λ z. (one z, two z)),
      )

  -- a live node is linked to a free one, which is then live
  pub publishes : (cpu section : Option ℕ) (t i l j : ℕ) (s : List Node) (b : List (List Node))
      → i < length s
      → j < length s
      → l < links
      → (node_at s i).state ≡ Live
      → (node_at s j).state ≡ Free
      → fits (node_at s j).words
      → ((m : ℕ) → m < links → IsTarget (joins m) (node_at s j).words s
      (slice_index (node_at s j).links m))
      → joins l (node_at s i).words (node_at s j).words
      → AllowsWord (IsKept fits joins first roots links width count) cpu section (Writer t s b)
      (place_of roots links width i l) (λ _. suc j)
      (λ _ now. IsPublished roots links width (place_of roots links width i l) (Writer t s b)
      (suc j) now)
  publishes cpu section t i l j s b bound low_j low live free fit targets joined n ws xs id h
      are lone there =
      let u : Node = node_at s j in
      let at_j : get_elem? s j ≡ some u = at_inside s j no_node low_j in
      let s₁ : List Node = set s j (in_state Live u) in
      let apart : i ≢ j =
      λ e. not_both (node_at s i).state live (ap (λ (m : ℕ). (node_at s m).state) e ∙ free) in
      let v : Node = node_at s₁ i in
      let same : v ≡ node_at s i = get_or-set_other s j i (in_state Live u) no_node apart in
      let at : get_elem? s₁ i ≡ some v = at_inside s₁ i no_node
      (let q = length-set s j (in_state Live u) in omega (arith, q, bound)) in
      let w : Node = linked_to l (suc j) v in
      let xs₁ : Views Known = set xs id (cpu, section, Writer t s₁ b) in
      let p : ℕ = place_of roots links width i l in
      let mid : IsKept fits joins first roots links width count ws xs₁ =
      renews ws ws xs h id cpu section t s b b j u (in_state Live u) there at_j
      (λ was.
      promoted fits joins first roots links width count ws s t j u was at_j free fit targets)
      (λ a may. absurd (subst (MayRead a) free may)) in
      let there₁ : get_elem? xs₁ id ≡ some (cpu, section, Writer t s₁ b) =
      set_here xs id (cpu, section, Writer t s₁ b)
      (inside xs id (cpu, section, Writer t s b) there) in
      let target : IsTarget (joins l) v.words s₁ (suc j) = λ k e.
      let is : k ≡ j = suc_inj (sym e) in (
        in_state Live u,
        ap (λ (m : ℕ). get_elem? s₁ m) is ∙ set_here s j (in_state Live u) low_j,
        refl,
        subst (λ (x : Node). joins l x.words u.words) (sym same) joined,
      ) in
      let after : IsKept fits joins first roots links width count (set ws p (suc j))
      (set xs₁ id (cpu, section, Writer t (set s₁ i w) (set s₁ i w ∷ b))) =
      renews ws (set ws p (suc j)) xs₁ mid id cpu section t s₁ b (set s₁ i w ∷ b) i v w
      there₁ at
      (λ was. link_stored fits joins first roots links width count ws s₁ t i l (suc j) v was at low
      (inr (ap (λ (x : Node). x.state) same ∙ live, target)))
      (λ a may. (refl, may)) in (
        Writer t (set s₁ i w) (set s₁ i w ∷ b),
        subst (λ (l : Views Known).
            IsKept fits joins first roots links width count (set ws p (suc j)) l)
            (set-set xs id (cpu, section, Writer t s₁ b)
            (cpu, section, Writer t (set s₁ i w) (set s₁ i w ∷ b))) after,
        λ i' l' j' low' e f.
            let cell = told roots links width i i' l l' (omega (arith, low))
            (omega (arith, low')) e in
            let one : i ≡ i' = cell.0 in
            let two : l ≡ l' = cell.1 in
            let three : j ≡ j' = suc_inj f in
            ap (λ (y : ℕ × ℕ × ℕ).
            let n = renewed (renewed s y.2 (in_state Live)) y.0 (linked_to y.1 (suc j)) in
            Writer t n (n ∷ b))
            (λ z. (one z, two z, three z)),
      )

  -- a live node without a link from a live one is marked as unlinked
  pub marks_unlinked : (cpu section : Option ℕ) (t i k : ℕ) (s : List Node) (b : List (List Node))
      → i < length s
      → k < links + width
      → roots ≤ i
      → (node_at s i).state ≡ Live
      → IsUnlinked links s i
      → AllowsWord (IsKept fits joins first roots links width count) cpu section (Writer t s b)
      (place_of roots links width i k) (λ n. n)
      (IsMarkedUnlinked roots links width (place_of roots links width i k) (Writer t s b))
  marks_unlinked cpu section t i k s b bound low past live unlinked n ws xs id h are lone there =
      let v : Node = node_at s i in
      let p : ℕ = place_of roots links width i k in
      let at : get_elem? s i ≡ some v = at_inside s i no_node bound in (
        Writer t (set s i (in_state Unlinked v)) b,
        subst (λ (cells : List ℕ). IsKept fits joins first roots links width count cells
            (set xs id (cpu, section, Writer t (set s i (in_state Unlinked v)) b)))
            (sym (set-get_or ws p 0))
            (renews ws ws xs h id cpu section t s b b i v (in_state Unlinked v) there at
            (λ was.
            node_unlinked fits joins first roots links width count ws s t i v was at live past
            unlinked)
            (λ a may. (refl, tt))),
        λ i' k' low' e. ap (λ (m : ℕ). Writer t (renewed s m (in_state Unlinked)) b)
            (told roots links width i i' k k' low low' e).0,
      )

  -- the writer's load of the number: a node that no section may be on is free
  pub reclaims : (cpu section : Option ℕ) (t : ℕ) (s : List Node) (b : List (List Node))
      → AllowsNumber (IsKept fits joins first roots links width count) cpu section (Writer t s b)
      (IsReclaimed (Writer t s b))
  reclaims cpu section t s b n ws xs id h are lone there =
      let k = h.seats id cpu section (Writer t s b) there in
      let m : ℕ = max n t in
      let was : AreKept fits joins first roots links width count ws s t =
      subst (λ (y : List Node × ℕ). AreKept fits joins first roots links width count ws y.0 y.1)
      (λ z. (sym k.1 z, sym k.0 z)) h.kept in (
        Writer m (reclaimed n m s) b,
        rekeep ws ws xs h id cpu section (Writer t s b) there k.2 m (reclaimed n m s)
            b
            (nodes_reclaimed fits joins first roots links width count ws s t n m was
            (le-max_right n t))
            (λ j a q who d u e here may. (
              reclaimed_node n m u,
              at_map (reclaimed_node n m) s q u (ap (λ (l : List Node). get_elem? l q) k.1 ∙ here),
              refl,
              may_reclaimed a n m u.state (le-max_left n t) (are j a who d e) may,
            )),
        refl,
      )

  -- the load that makes the seat the nodes' writer
  pub claims : (cpu section : Option ℕ) (p : ℕ)
      → AllowsWord (IsKept fits joins first roots links width count) cpu section Owner p (λ n. n)
      (λ _ now. IsClaimed first roots links width count now)
  claims cpu section p n ws xs id h are lone there =
      let k = h.seats id cpu section Owner there in
      let w : Known = Writer 0 (first_nodes links width first roots count) [] in (
        w,
        subst (λ (l : List ℕ).
            IsKept fits joins first roots links width count l (set xs id (cpu, section, w)))
            (sym (set-get_or ws p 0))
            (one_changes fits joins first roots links width count ws xs h id (cpu, section, w)
            (sym k.1, sym k.0, k.2)),
        refl,
      )
