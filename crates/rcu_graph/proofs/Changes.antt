-- Each change of a node, and each load of the number, keeps the invariant of the nodes.
use Rattle.std.proofs.Common.{◌≡◌, ◌≢◌, ◌⊎◌, ℕ, suc, ◌+◌, ◌-◌, ◌*◌, ◌<◌, ◌≤◌, List, ◌++◌, length}
use Rattle.std.proofs.Common.{get_or, set, refl, sym, ap, ◌∙◌, subst, inl, inr, arith, length-set}
use Rattle.std.proofs.lemmas.List.{length-append}
use Rattle.std.specs.Prelude.{slice_index}
use Rattle.std.proofs.lemmas.List.{get_or-set_same, get_or-set_other, set-append_left}
use Rattle.std.proofs.lemmas.List.{set-append_right}
use mathlib.Core.Option.{some, some-injective}
use mathlib.Core.Logic.{dite}
use native.Mathlib.Decide.{dec_le, ℕ_discrete}
use lib.ListN.{get_elem?, length-map}
use Rattle.atomic_table.proofs.Lists.{at_map, set_here, set_else}
use Rattle.rcu_live.proofs.ClientLemmas.{at_map_back}
use Rattle.rcu_live.proofs.ClientRows.{inside, reseat}
use Rattle.rcu_graph.specs.Nodes.{IsBy, IsTarget, IsUnlinked, IsUsed, Outlives, first_place}
use Rattle.rcu_graph.specs.Nodes.{in_state, linked_to, place_of, reclaimed, reclaimed_node}
use Rattle.rcu_graph.specs.Nodes.{reclaimed_state, row_of, worded}
use Rattle.rcu_graph.specs.Rule.{AreKept, IsLed, Leads}
use Rattle.rcu_graph.specs.declared.known.Node.{Node}
use Rattle.rcu_graph.specs.declared.node_state.NodeState.{NodeState}
use Rattle.rcu_graph.specs.declared.node_state.NodeState.TheVariants.{Free, Live, Retired, Unlinked}
use Rattle.rcu_graph.proofs.Cells.{place_inside_all, told}
use Rattle.rcu_graph.proofs.States.{by_reclaimed, live_outlived, none_outlives, not_both}
use Rattle.rcu_graph.proofs.States.{outlives_reclaimed, used_reclaimed}

nowhere : (j : ℕ) → 0 ≡ suc j → ⊥
nowhere j e = omega (arith, e)

-- a place of a row is stored, and the row has that
stored_row : (roots links width count i q x : ℕ) (ws cells : List ℕ)
    → roots ≤ count
    → i < count
    → q < links + width
    → length cells ≡ links + width
    → length ws ≡ first_place + (links + width) * count
    → ((k : ℕ) → k < links + width → slice_index ws (place_of roots links width i k)
    ≡ slice_index cells k)
    → (k : ℕ) → k < links + width
    → slice_index (set ws (place_of roots links width i q) x) (place_of roots links width i k)
    ≡ slice_index (set cells q x) k
stored_row roots links width count i q x ws cells many low small size long same k high =
    dite (ℕ_discrete k q)
    (λ (e : k ≡ q). subst (λ (m : ℕ).
    get_or (set ws p x) (place_of roots links width i m) 0 ≡ get_or (set cells q x) m 0)
    (sym e)
    (get_or-set_same ws p x 0
    (let inside = place_inside_all roots links width count i q many low small in
    omega (arith, inside, long))
    ∙ sym (get_or-set_same cells q x 0 (omega (arith, small, size)))))
    (λ (ne : k ≢ q).
    get_or-set_other ws p (place_of roots links width i k) x 0
    (λ e. ne (told roots links width i i k q high small e).1)
    ∙ (same k high ∙ sym (get_or-set_other cells q k x 0 ne)))
  where
    p : ℕ
    p = place_of roots links width i q

module _ (fits : List ℕ → Type 0) (joins : ℕ → List ℕ → List ℕ → Type 0) (first : ℕ → List ℕ)
    (roots links width count : ℕ) where
  -- a link still leads to the same node, if the node i is in the same state and has the same words
  still_leads : (s : List Node) (i : ℕ) (v w u : Node) (l j : ℕ)
      → get_elem? s i ≡ some v → w.state ≡ v.state → w.words ≡ v.words → Leads joins s u l j
      → Leads joins (set s i w) u l j
  still_leads s i v w u l j at state words d = dite (ℕ_discrete j i)
      (λ (is : j ≡ i).
      let same : d.to ≡ v =
      some-injective _ _ (sym d.here ∙ (ap (λ (n : ℕ). get_elem? s n) is ∙ at)) in
      record {
        to = w;
        here = ap (λ (n : ℕ). get_elem? (set s i w) n) is ∙ set_here s i w (inside s i v at);
        lasts = subst (λ (st : NodeState). Outlives u.state st)
            (ap (λ (x : Node). x.state) same ∙ sym state) d.lasts;
        joined = subst (λ (ws : List ℕ). joins l u.words ws)
            (ap (λ (x : Node). x.words) same ∙ sym words) d.joined;
      })
      (λ (ne : j ≢ i). record {
        to = d.to;
        here = set_else s i j w ne ∙ d.here;
        lasts = d.lasts;
        joined = d.joined;
      })

  -- one node changes, and its row may
  renode : (ws new : List ℕ) (s : List Node) (t i : ℕ) (v w : Node)
      → AreKept fits joins first roots links width count ws s t
      → get_elem? s i ≡ some v
      → length new ≡ length ws
      → (i < roots → (w.state ≡ Live) × (w.words ≡ v.words))
      → length w.links ≡ links
      → length w.words ≡ width
      → ((k : ℕ) → k < links + width → slice_index new (place_of roots links width i k)
      ≡ slice_index (row_of w) k)
      → ((j k : ℕ) → j ≢ i → k < links + width → slice_index new (place_of roots links width j k)
      ≡ slice_index ws (place_of roots links width j k))
      → (IsUsed w.state → fits w.words)
      → IsBy t w.state
      → (IsUsed w.state → IsLed joins links (set s i w) w)
      → ((j l : ℕ) (u : Node)
      → get_elem? s j ≡ some u
      → IsUsed u.state
      → Outlives u.state v.state
      → joins l u.words v.words
      → l < links
      → slice_index u.links l ≡ suc i
      → Outlives u.state w.state × joins l u.words w.words)
      → AreKept fits joins first roots links width count new (set s i w) t
  renode ws new s t i v w h at long stays many size mine others fit by led into = record {
    few = length-set s i w ∙ h.few;
    long = long ∙ h.long;
    rooted = λ j low.
        let r = h.rooted j low in
        dite (ℕ_discrete j i)
        (λ (is : j ≡ i).
        let same : v ≡ r.0 =
        some-injective _ _ (sym at ∙ (ap (λ (n : ℕ). get_elem? s n) (sym is) ∙ r.1)) in
        let q = stays (subst (λ (n : ℕ). n < roots) is low) in (
          w,
          ap (λ (n : ℕ). get_elem? (set s i w) n) is ∙ set_here s i w bound,
          q.0,
          q.1 ∙ (ap (λ (x : Node). x.words) same ∙ r.3),
        ))
        (λ (ne : j ≢ i). (r.0, set_else s i j w ne ∙ r.1, r.2, r.3));
    linked = reseat (λ j u. length u.links ≡ links) s i w many (λ j u ne e. h.linked j u e);
    sized = reseat (λ j u. length u.words ≡ width) s i w size (λ j u ne e. h.sized j u e);
    written = reseat (λ j u.
        (k : ℕ) → k < links + width → slice_index new (place_of roots links width j k)
        ≡ slice_index (row_of u) k)
        s i w mine (λ j u ne e k low. others j k ne low ∙ h.written j u e k low);
    whole = reseat (λ j u. IsUsed u.state → fits u.words) s i w fit (λ j u ne e. h.whole j u e);
    by = reseat (λ j u. IsBy t u.state) s i w by (λ j u ne e. h.by j u e);
    led = reseat (λ j u. IsUsed u.state → IsLed joins links (set s i w) u) s i w led
        (λ j u ne e used l k low link.
        goes j u e used l k low link (h.led j u e used l k low link));
  }
    where
      bound : i < length s
      bound = inside s i v at

      goes : (j : ℕ) (u : Node) → get_elem? s j ≡ some u → IsUsed u.state → (l k : ℕ) → l < links
          → slice_index u.links l ≡ suc k → Leads joins s u l k → Leads joins (set s i w) u l k
      goes j u e used l k low link d = dite (ℕ_discrete k i)
          (λ (is : k ≡ i).
          let same : d.to ≡ v =
          some-injective _ _ (sym d.here ∙ (ap (λ (n : ℕ). get_elem? s n) is ∙ at)) in
          let r = into j l u e used (subst (λ (x : Node). Outlives u.state x.state) same d.lasts)
          (subst (λ (x : Node). joins l u.words x.words) same d.joined) low (link ∙ ap suc is) in
          record {
            to = w;
            here = ap (λ (n : ℕ). get_elem? (set s i w) n) is ∙ set_here s i w bound;
            lasts = r.0;
            joined = r.1;
          })
          (λ (ne : k ≢ i). record {
            to = d.to;
            here = set_else s i k w ne ∙ d.here;
            lasts = d.lasts;
            joined = d.joined;
          })

  -- a root is live
  root_is : (ws : List ℕ) (s : List Node) (t i : ℕ) (v : Node)
      → AreKept fits joins first roots links width count ws s t
      → get_elem? s i ≡ some v → i < roots → v.state ≡ Live
  root_is ws s t i v h at low = let r = h.rooted i low in
      ap (λ (x : Node). x.state) (some-injective _ _ (sym at ∙ r.1)) ∙ r.2

  -- each root is a node
  few_roots : (ws : List ℕ) (s : List Node) (t : ℕ)
      → AreKept fits joins first roots links width count ws s t
      → roots ≤ count
  few_roots ws s t h = by (dec_le roots count)
    where
      by : Dec (roots ≤ count) → roots ≤ count
      by (yes few) = few
      by (no more) =
          let r = h.rooted count (omega (arith, more)) in
          let low = inside s count r.0 r.1 in absurd (omega (arith, low, h.few))

  row_long : (ws : List ℕ) (s : List Node) (t i : ℕ) (v : Node)
      → AreKept fits joins first roots links width count ws s t
      → get_elem? s i ≡ some v → length (row_of v) ≡ links + width
  row_long ws s t i v h at =
      let a = h.linked i v at in
      let b = h.sized i v at in length_both v.links v.words links width a b
    where
      length_both : (xs ys : List ℕ) (a b : ℕ) → length xs ≡ a → length ys ≡ b
          → length (xs ++ ys) ≡ a + b
      length_both xs ys a b e f = let n = length-append xs ys in omega (arith, n, e, f)

  -- a link of a free node is stored, or one of a live node that then leads to a live one
  pub link_stored : (ws : List ℕ) (s : List Node) (t i l x : ℕ) (v : Node)
      → AreKept fits joins first roots links width count ws s t
      → get_elem? s i ≡ some v
      → l < links
      → (v.state ≡ Free) ⊎ ((v.state ≡ Live) × IsTarget (joins l) v.words s x)
      → AreKept fits joins first roots links width count (set ws (place_of roots links width i l) x)
      (set s i (linked_to l x v)) t
  link_stored ws s t i l x v h at low may =
      let p : ℕ = place_of roots links width i l in
      let w : Node = linked_to l x v in
      let bound : i < length s = inside s i v at in
      let many : length v.links ≡ links = h.linked i v at in
      let is_row : set (row_of v) l x ≡ row_of w =
      set-append_left v.links v.words l x (omega (arith, low, many)) in
      renode ws (set ws p x) s t i v w h at (length-set ws p x)
      (λ r. (root_is ws s t i v h at r, refl)) (length-set v.links l x ∙ many) (h.sized i v at)
      (λ k high.
      stored_row roots links width count i l x ws (row_of v) (few_roots ws s t h)
      (omega (arith, bound, h.few)) (omega (arith, low))
      (row_long ws s t i v h at) h.long (h.written i v at) k high
      ∙ ap (λ (cells : List ℕ). slice_index cells k) is_row)
      (λ j k ne high. get_or-set_other ws p (place_of roots links width j k) x 0
      (λ e. ne (told roots links width j i k l high (omega (arith, low)) e).0))
      (h.whole i v at) (h.by i v at)
      (λ used m k small link. dite (ℕ_discrete m l)
      (λ (is : m ≡ l). to_target used m k small is link may)
      (λ (ne : m ≢ l).
      let d = h.led i v at used m k small (sym (get_or-set_other v.links l m x 0 ne) ∙ link) in
      let e = still_leads s i v w v m k at refl refl d in
      record { to = e.to; here = e.here; lasts = e.lasts; joined = e.joined }))
      (λ j m u e used lasts joined small link. (lasts, joined))
    where
      to_target : IsUsed v.state
          → (m k : ℕ) → m < links
          → m ≡ l
          → slice_index (set v.links l x) m ≡ suc k
          → (v.state ≡ Free) ⊎ ((v.state ≡ Live) × IsTarget (joins l) v.words s x)
          → Leads joins (set s i (linked_to l x v)) (linked_to l x v) m k
      to_target used m k small is link (inl free) = absurd (subst IsUsed free used)
      to_target used m k small is link (inr live) =
          let stored : x ≡ suc k =
          sym
          (get_or-set_same v.links l x 0 (let many = h.linked i v at in omega (arith, low, many)))
          ∙ (ap (λ (n : ℕ). slice_index (set v.links l x) n) (sym is) ∙ link) in
          let t = live.1 k stored in
          let d : Leads joins s v m k = record {
            to = t.0;
            here = t.1;
            lasts = subst (λ (st : NodeState × NodeState). Outlives st.0 st.1)
                (λ z. (sym live.0 z, sym t.2 z)) tt;
            joined = subst (λ (n : ℕ). joins n v.words t.0.words) (sym is) t.3;
          } in
          let e = still_leads s i v (linked_to l x v) v m k at refl refl d in
          record { to = e.to; here = e.here; lasts = e.lasts; joined = e.joined }

  -- a word of a free node is stored
  pub word_stored : (ws : List ℕ) (s : List Node) (t i k x : ℕ) (v : Node)
      → AreKept fits joins first roots links width count ws s t
      → get_elem? s i ≡ some v
      → k < width
      → v.state ≡ Free
      → AreKept fits joins first roots links width count
      (set ws (place_of roots links width i (links + k)) x) (set s i (worded k x v)) t
  word_stored ws s t i k x v h at low free =
      let q : ℕ = links + k in
      let p : ℕ = place_of roots links width i q in
      let w : Node = worded k x v in
      let bound : i < length s = inside s i v at in
      let many : length v.links ≡ links = h.linked i v at in
      let back : q - links ≡ k = omega arith in
      let is_row : set (row_of v) q x ≡ row_of w =
      set-append_right v.links v.words links q x many (omega arith)
      ∙ ap (λ (n : ℕ). v.links ++ set v.words n x) back in
      renode ws (set ws p x) s t i v w h at (length-set ws p x)
      (λ r. absurd (not_both v.state (root_is ws s t i v h at r) free)) many
      (length-set v.words k x ∙ h.sized i v at)
      (λ m high.
      stored_row roots links width count i q x ws (row_of v) (few_roots ws s t h)
      (omega (arith, bound, h.few)) (omega (arith, low))
      (row_long ws s t i v h at) h.long (h.written i v at) m high
      ∙ ap (λ (cells : List ℕ). slice_index cells m) is_row)
      (λ j m ne high. get_or-set_other ws p (place_of roots links width j m) x 0
      (λ e. ne (told roots links width j i m q high (omega (arith, low)) e).0))
      (λ used. absurd (subst IsUsed free used)) (h.by i v at)
      (λ used. absurd (subst IsUsed free used))
      (λ j l u e used lasts joined small link.
      absurd (none_outlives u.state used (subst (Outlives u.state) free lasts)))

  -- a free node becomes live: whole, with links that lead to live nodes
  pub promoted : (ws : List ℕ) (s : List Node) (t i : ℕ) (v : Node)
      → AreKept fits joins first roots links width count ws s t
      → get_elem? s i ≡ some v
      → v.state ≡ Free
      → fits v.words
      → ((l : ℕ) → l < links → IsTarget (joins l) v.words s (slice_index v.links l))
      → AreKept fits joins first roots links width count ws (set s i (in_state Live v)) t
  promoted ws s t i v h at free fit targets =
      let w : Node = in_state Live v in
      renode ws ws s t i v w h at refl (λ r. (refl, refl)) (h.linked i v at) (h.sized i v at)
      (h.written i v at) (λ j k ne high. refl) (λ used. fit) tt
      (λ used l k low link.
      let t = targets l low k link in
      dite (ℕ_discrete k i)
      (λ (is : k ≡ i). absurd (not_both v.state
      (ap (λ (x : Node). x.state)
      (some-injective _ _ (sym at ∙ (ap (λ (n : ℕ). get_elem? s n) (sym is) ∙ t.1)))
      ∙ t.2)
      free))
      (λ (ne : k ≢ i). record {
        to = t.0;
        here = set_else s i k w ne ∙ t.1;
        lasts = subst (Outlives Live) (sym t.2) tt;
        joined = t.3;
      }))
      (λ j l u e used lasts joined small link.
      absurd (none_outlives u.state used (subst (Outlives u.state) free lasts)))

  -- a live node without a link from a live one is marked as unlinked
  pub node_unlinked : (ws : List ℕ) (s : List Node) (t i : ℕ) (v : Node)
      → AreKept fits joins first roots links width count ws s t
      → get_elem? s i ≡ some v
      → v.state ≡ Live
      → roots ≤ i
      → IsUnlinked links s i
      → AreKept fits joins first roots links width count ws (set s i (in_state Unlinked v)) t
  node_unlinked ws s t i v h at live past unlinked =
      let w : Node = in_state Unlinked v in
      let live_used : IsUsed v.state = subst IsUsed (sym live) tt in
      renode ws ws s t i v w h at refl (λ r. absurd (omega (arith, r, past))) (h.linked i v at)
      (h.sized i v at) (h.written i v at) (λ j k ne high. refl) (λ used. h.whole i v at live_used)
      tt
      (λ used l k low link.
      let d = h.led i v at live_used l k low link in
      dite (ℕ_discrete k i) (λ (is : k ≡ i). absurd (unlinked i l v at live low (link ∙ ap suc is)))
      (λ (ne : k ≢ i).
      let on : d.to.state ≡ Live =
      live_outlived d.to.state (subst (λ (st : NodeState). Outlives st d.to.state) live d.lasts) in
      record {
        to = d.to;
        here = set_else s i k w ne ∙ d.here;
        lasts = subst (Outlives Unlinked) (sym on) tt;
        joined = d.joined;
      }))
      (λ j l u e used lasts joined small link. (
        unlinked_outlives u.state used (λ is. unlinked j l u e is small link),
        joined,
      ))
    where
      unlinked_outlives : (st : NodeState) → IsUsed st → (st ≡ Live → ⊥) → Outlives st Unlinked
      unlinked_outlives Free used apart = absurd used
      unlinked_outlives Live used apart = absurd (apart refl)
      unlinked_outlives Unlinked used apart = tt
      unlinked_outlives (Retired a) used apart = tt

  -- a look at the number
  pub nodes_reclaimed : (ws : List ℕ) (s : List Node) (t n m : ℕ)
      → AreKept fits joins first roots links width count ws s t → t ≤ m
      → AreKept fits joins first roots links width count ws (reclaimed n m s) m
  nodes_reclaimed ws s t n m h up = record {
    few = length-map s (reclaimed_node n m) ∙ h.few;
    long = h.long;
    rooted = λ j low. let r = h.rooted j low in (
      reclaimed_node n m r.0,
      at_map (reclaimed_node n m) s j r.0 r.1,
      ap (reclaimed_state n m)
          r.2,
      r.3,
    );
    linked = λ j u e. let b = at_map_back (reclaimed_node n m) s j u e in
        subst (λ (x : Node). length x.links ≡ links) b.2 (h.linked j b.0 b.1);
    sized = λ j u e. let b = at_map_back (reclaimed_node n m) s j u e in
        subst (λ (x : Node). length x.words ≡ width) b.2 (h.sized j b.0 b.1);
    written = λ j u e.
        let b = at_map_back (reclaimed_node n m) s j u e in
        subst (λ (x : Node).
        (k : ℕ) → k < links + width → slice_index ws (place_of roots links width j k)
        ≡ slice_index (row_of x) k)
        b.2 (h.written j b.0 b.1);
    whole = λ j u e.
        let b = at_map_back (reclaimed_node n m) s j u e in
        subst (λ (x : Node). IsUsed x.state → fits x.words) b.2
        (λ used. h.whole j b.0 b.1 (used_reclaimed n m b.0.state used));
    by = λ j u e. let b = at_map_back (reclaimed_node n m) s j u e in
        subst (λ (x : Node). IsBy m x.state) b.2 (by_reclaimed n m t b.0.state up (h.by j b.0 b.1));
    led = λ j u e.
        let b = at_map_back (reclaimed_node n m) s j u e in
        subst (λ (x : Node). IsUsed x.state → IsLed joins links (reclaimed n m s) x) b.2
        (λ used l k low link.
        let d = h.led j b.0 b.1 (used_reclaimed n m b.0.state used) l k low link in
        record {
          to = reclaimed_node n m d.to;
          here = at_map (reclaimed_node n m) s k d.to d.here;
          lasts = outlives_reclaimed n m t b.0.state d.to.state up (h.by j b.0 b.1) d.lasts used;
          joined = d.joined;
        });
  }
