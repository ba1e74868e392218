-- A writer's knowledge during a change, step by step.
use Rattle.std.proofs.Common.{◌≡◌, ◌⊎◌, inr, ℕ, zero, suc, ◌+◌, ◌*◌, ◌<◌, ◌≤◌, List, [], ◌∷◌, ◌++◌}
use Rattle.std.proofs.Common.{Option, length, get_or, set, take, drop, refl, sym, ap, ◌∙◌, arith}
use Rattle.std.proofs.Common.{subst, length-set}
use Rattle.std.specs.Prelude.{All, IfSome, None, Some, nat_eq, slice_index}
use Rattle.std.proofs.lemmas.List.{drop_more}
use Rattle.std.proofs.lemmas.List.Elements.{All-from_get_or}
use Rattle.std.proofs.lemmas.List.Sums.{sum_by-append, sum_by-cons}
use Rattle.rcu_live.specs.Watcher.{Watching, after_word_step}
use Rattle.rcu_graph.specs.Counts.{counted_up, links_to, one_if, times_in}
use Rattle.rcu_graph.specs.Graph.{word_to}
use Rattle.rcu_graph.specs.Writer.{IsReady, after_step, after_store, stored_to}
use Rattle.rcu_graph.specs.Mirror.{AreSized}
use Rattle.rcu_graph.specs.Nodes.{IsKeeping, IsTarget, IsUnlinked, in_state, linked_to, node_at}
use Rattle.rcu_graph.specs.Nodes.{nodes_in, renewed, state_at}
use Rattle.rcu_graph.specs.Tended.{IsReached}
use Rattle.rcu_graph.specs.Collecting.{IsCollecting, IsCounted, IsInside}
use Rattle.rcu_graph.specs.Planned.{knowing}
use Rattle.rcu_graph.specs.declared.known.Known.{Known}
use Rattle.rcu_graph.specs.declared.known.Planned.{Planned}
use Rattle.rcu_graph.specs.declared.known.Node.{Node}
use Rattle.rcu_graph.specs.declared.node_state.NodeState.TheVariants.{Live, Unlinked}
use Rattle.rcu_graph.proofs.Counting.{leads_counts, live_in-unlinked, live_inside}
use Rattle.rcu_graph.proofs.Counting.{state_keeps_links, state_keeps_words}
use Rattle.rcu_graph.proofs.Filling.{known_is}
use Rattle.rcu_graph.proofs.Tending.{AreWhole, are_whole, at_here, counts_are, led_there}
use Rattle.rcu_graph.proofs.Tending.{links_to-le, promoted_counts, promoted_state}
use Rattle.rcu_graph.proofs.Releases.{kept_released, none_released, owed_is_counted, owed_is_inside}
use Rattle.rcu_graph.proofs.Releases.{unlinked, unlinked_released}
use Rattle.rcu_graph.proofs.Tending.{promoted_up, promoted_whole, starts_collecting, still_live}
use Rattle.rcu_graph.proofs.Tending.{stored_whole, tended}

-- no step, one step, and a step after others
pub no_step : (s : Watching Planned) → IsKeeping s.view.client.known
    → s ≡ after_step s (nodes_in s.view.client.known)
no_step s keeps = ap (λ (k : Known). after_word_step s (knowing s.view.client k))
    (known_is s.view.client.known keeps)

pub nodes_are : (a c : Watching Planned) (nodes : List Node) → c ≡ after_step a nodes
    → nodes_in c.view.client.known ≡ nodes
nodes_are a c nodes e = ap (λ (w : Watching Planned). nodes_in w.view.client.known) e

pub step_on : (a b c : Watching Planned)
    → b ≡ after_step a (nodes_in b.view.client.known)
    → c ≡ after_step b (nodes_in c.view.client.known)
    → c ≡ after_step a (nodes_in c.view.client.known)
step_on a b c e f = f ∙ ap (λ (w : Watching Planned). after_step w (nodes_in c.view.client.known)) e

-- a store, and steps after it
pub collected_on : (a b c : Watching Planned) (stored : List Node)
    → b ≡ stored_to a stored
    → c ≡ after_step b (nodes_in c.view.client.known)
    → c ≡ after_store a stored (nodes_in c.view.client.known)
collected_on a b c stored e f =
    f ∙ ap (λ (w : Watching Planned). after_step w (nodes_in c.view.client.known)) e

-- if none is counted, no live node leads there
pub none_lead : (links : ℕ) (nodes : List Node) (i : ℕ) → links_to nodes i ≡ 0
    → IsUnlinked links nodes i
none_lead links nodes i none = λ j l v is live low leads.
    let e : node_at nodes j ≡ v = at_here nodes j v is in
    let a = leads_counts nodes j l i (ap (λ (w : Node). w.state) e ∙ live)
    (ap (λ (w : Node). slice_index w.links l) e ∙ leads) in
    omega (arith, a, none)

module _ (count roots links : ℕ) (stored nodes : List Node) (counts unlinking : List ℕ)
    (from to : ℕ) where
  -- there is room for one more node
  pub room_left : (words : List ℕ) (i : ℕ)
      → IsCollecting count roots links stored nodes counts unlinking from to words
      → state_at nodes i ≡ Live
      → to < length unlinking
  room_left words i t live =
      let a = t.enough in
      let b = live_in-unlinked nodes i live in let c = t.room in omega (arith, a, b, c)

  pub in_room : (words : List ℕ)
      → IsCollecting count roots links stored nodes counts unlinking from to words
      → to ≤ length unlinking
  in_room words t = let a = t.enough in let c = t.room in omega (arith, a, c)

  -- the next link of a node that was unlinked, and no further one
  module _ (i : ℕ) (inside : i < count) where
    abbrev own : List ℕ
    own = (node_at stored i).links

    pub next_link : (l : ℕ)
        → l < links
        → IsCollecting count roots links stored nodes counts unlinking from to (drop l own)
        → IsCollecting count roots links stored nodes counts unlinking from to
        (slice_index (node_at nodes i).links l ∷ drop (l + 1) own)
    next_link l low t =
        subst
        (λ (words : List ℕ). IsCollecting count roots links stored nodes counts unlinking from
        to words)
        (drop_more own l 0 (let size = t.sized i inside in omega (arith, low, size))
        ∙ ap (λ (c : List ℕ). slice_index c l ∷ drop (l + 1) own) (sym (t.links_stay i)))
        t

    pub no_link_more : IsCollecting count roots links stored nodes counts unlinking from to
        (drop links own)
        → IsCollecting count roots links stored nodes counts unlinking from to []
    no_link_more t =
        subst
        (λ (words : List ℕ). IsCollecting count roots links stored nodes counts unlinking from
        to words)
        (none links own (t.sized i inside)) t
      where
        none : (n : ℕ) (l : List ℕ) → length l ≡ n → drop n l ≡ []
        none zero [] e = refl
        none zero (x ∷ l) e = absurd (omega (arith, e))
        none (suc n) [] e = absurd (omega (arith, e))
        none (suc n) (x ∷ l) e = none n l (omega (arith, e))

-- one more link of a row
pub times_more : (cells : List ℕ) (l word : ℕ)
    → l < length cells
    → times_in (take (l + 1) cells) word
    ≡ times_in (take l cells) word + one_if (nat_eq (get_or cells l 0) word)
times_more cells l word low =
    let a : times_in (take (l + 1) cells) word
    ≡ times_in (take l cells ++ (get_or cells l 0 ∷ [])) word =
    ap (λ (c : List ℕ). times_in c word) (taken cells l low) in
    let b =
    sum_by-append (λ (c : ℕ). one_if (nat_eq c word)) (take l cells) (get_or cells l 0 ∷ []) in
    let d : times_in (get_or cells l 0 ∷ []) word ≡ one_if (nat_eq (get_or cells l 0) word) + 0 =
    sum_by-cons (λ (c : ℕ). one_if (nat_eq c word)) (get_or cells l 0) [] in
    omega (arith, a, b, d)
  where
    after : (k : ℕ) → k + 1 ≡ suc k
    after k = omega arith

    on : (c : List ℕ) (l : ℕ) → l < length c → take (suc l) c ≡ take l c ++ (get_or c l 0 ∷ [])
    on [] l low = absurd (omega (arith, low))
    on (x ∷ c) zero low = refl
    on (x ∷ c) (suc l) low = ap (λ (r : List ℕ). x ∷ r) (on c l (omega (arith, low)))

    taken : (c : List ℕ) (l : ℕ) → l < length c → take (l + 1) c ≡ take l c ++ (get_or c l 0 ∷ [])
    taken c l low = ap (λ (n : ℕ). take n c) (after l) ∙ on c l low

pub times_all : (cells : List ℕ) (n word : ℕ) → length cells ≡ n
    → times_in (take n cells) word ≡ times_in cells word
times_all cells n word e = ap (λ (c : List ℕ). times_in c word) (all cells n e)
  where
    all : (c : List ℕ) (n : ℕ) → length c ≡ n → take n c ≡ c
    all [] zero e = refl
    all [] (suc n) e = refl
    all (x ∷ c) zero e = absurd (omega (arith, e))
    all (x ∷ c) (suc n) e = ap (λ (r : List ℕ). x ∷ r) (all c n (omega (arith, e)))

pub times_le : (cells : List ℕ) (l word : ℕ) → times_in (take l cells) word ≤ times_in cells word
times_le [] zero word = omega arith
times_le [] (suc l) word = omega arith
times_le (x ∷ cells) zero word = omega arith
times_le (x ∷ cells) (suc l) word =
    let a = times_le cells l word in
    let b = sum_by-cons (λ (c : ℕ). one_if (nat_eq c word)) x cells in
    let d = sum_by-cons (λ (c : ℕ). one_if (nat_eq c word)) x (take l cells) in
    omega (arith, a, b, d)

module _ (fits : List ℕ → Type 0) (joins : ℕ → List ℕ → List ℕ → Type 0)
    (count roots links : ℕ) where
  -- a target is inside
  pub target_inside : (nodes : List Node) (l : ℕ) (words : List ℕ) (x : ℕ) → length nodes ≡ count
      → IsTarget (joins l) words nodes x → IsInside count x
  target_inside nodes l words x few target = λ j is.
      let on = led_there fits joins count roots links 0 nodes l words x j target is in
      let low = live_inside nodes j on.0 in omega (arith, low, few)

  -- a link to a node that is live and no root is counted
  pub counted_live : (nodes : List Node) (counts unlinking : List ℕ) → length nodes ≡ count
      → IsCounted fits joins count roots links nodes counts unlinking
      → (k : ℕ) → state_at nodes k ≡ Live → roots ≤ k → 0 < slice_index counts k
  counted_live nodes counts unlinking few c k live past =
      let r : IsReached links nodes k = c.tended.reached k live past in
      let some = leads_counts nodes r.from r.link k r.live r.leads in
      let low = live_inside nodes k live in
      let a = c.counted k (omega (arith, low, few)) in
      omega (arith, some, a)

  -- when nothing is owed any more, the nodes are tended and counted
  pub counted_after : (width : ℕ) (stored nodes : List Node) (counts unlinking : List ℕ) (to : ℕ)
      → AreWhole fits joins count roots links width stored
      → IsCollecting count roots links stored nodes counts unlinking to to []
      → IsCounted fits joins count roots links nodes counts unlinking
  counted_after width stored nodes counts unlinking to whole t = record {
    tended = tended fits joins count roots links width stored nodes counts unlinking to whole t;
    many = t.counts_many;
    room = t.room;
    counted =
        counts_are fits joins count roots links width stored nodes counts unlinking to whole t;
  }

  -- a link of a live node is led elsewhere
  module _ (width : ℕ) (nodes : List Node) (counts unlinking : List ℕ) (few : length nodes ≡ count)
      (sizes : AreSized count links width nodes)
      (c : IsCounted fits joins count roots links nodes counts unlinking) where
    module _ (i l x : ℕ) (live : state_at nodes i ≡ Live) (low : l < links)
        (target : IsTarget (joins l) (node_at nodes i).words nodes x) where
      there : (j : ℕ) → x ≡ suc j
          → (state_at nodes j ≡ Live) × joins l (node_at nodes i).words (node_at nodes j).words
      there j is =
          led_there fits joins count roots links width nodes l (node_at nodes i).words x j target is

      rising : (k : ℕ) → state_at nodes k ≡ Live → roots ≤ k
          → (x ≡ suc k) ⊎ (0 < slice_index counts k)
      rising k on past = inr (counted_live nodes counts unlinking few c k on past)

      pub relinked_starts : IsCollecting count roots links (renewed nodes i (linked_to l x))
          (renewed nodes i (linked_to l x)) (counted_up counts x) unlinking 0 0
          (slice_index (node_at nodes i).links l ∷ [])
      relinked_starts =
          starts_collecting fits joins count roots links width nodes counts unlinking i l
          x few sizes c.many c.room (are_whole fits joins count roots links width nodes c.tended)
          c.counted rising live low there

      pub relinked_whole : AreWhole fits joins count roots links width
          (renewed nodes i (linked_to l x))
      relinked_whole = stored_whole fits joins count roots links width nodes counts unlinking i l x
          few sizes c.many c.room (are_whole fits joins count roots links width nodes c.tended)
          c.counted rising live low there

    -- one more link is counted
    pub count_fits : (k : ℕ) → k < count → slice_index counts k ≤ links * count
    count_fits k low =
        let a = links_to-le links width count nodes k few sizes in
        let b = c.counted k low in omega (arith, a, b)

    -- a live node is linked to a free one, whose links are counted
    module _ (i l j : ℕ) (inside : j < count) (ready : IsReady fits joins links nodes j) where
      abbrev pub promoted : List Node
      promoted = renewed nodes j (in_state Live)

      few_promoted : length promoted ≡ count
      few_promoted = length-set nodes j (in_state Live (node_at nodes j)) ∙ few

      within : j < length nodes
      within = omega (arith, inside, few)

      sizes_promoted : AreSized count links width promoted
      sizes_promoted = λ k low. (
        ap (λ (cells : List ℕ). length cells) (state_keeps_links nodes j k Live within)
            ∙ (sizes k low).0,
        ap (λ (cells : List ℕ). length cells) (state_keeps_words nodes j k Live within)
            ∙ (sizes k low).1,
      )

      whole_promoted : AreWhole fits joins count roots links width promoted
      whole_promoted = promoted_whole fits joins count roots links width nodes counts j few c.tended
          c.counted inside ready

      counts_promoted : (k : ℕ)
          → links_to promoted k ≡ links_to nodes k + times_in (node_at nodes j).links (suc k)
      counts_promoted k = promoted_counts fits joins count roots links width nodes counts j few
          c.tended c.counted inside ready k

      pub counts_fit : (k : ℕ) → k < count
          → slice_index counts k + times_in (node_at nodes j).links (suc k) ≤ links * count
      counts_fit k low =
          let a = links_to-le links width count promoted k few_promoted sizes_promoted in
          let b = counts_promoted k in
          let d = c.counted k low in
          omega (arith, a, b, d)

      pub ready_inside : All (IsInside count) (node_at nodes j).links
      ready_inside = All-from_get_or (IsInside count) (node_at nodes j).links 0
          (λ m small k is.
          let size = (sizes j inside).0 in
          target_inside nodes m (node_at nodes j).words (slice_index (node_at nodes j).links m) few
          (ready.led m (omega (arith, small, size))) k is)

      module _ (new : List ℕ) (many : length new ≡ count)
          (are : (k : ℕ) → k < count → slice_index new k
          ≡ slice_index counts k + times_in (node_at nodes j).links (suc k))
          (live : state_at nodes i ≡ Live) (low : l < links)
          (joined : joins l (node_at nodes i).words (node_at nodes j).words) where
        counted_promoted : (k : ℕ) → k < count → slice_index new k ≡ links_to promoted k
        counted_promoted k small =
            let a = are k small in
            let b = counts_promoted k in let d = c.counted k small in omega (arith, a, b, d)

        pub live_promoted : state_at promoted i ≡ Live
        live_promoted = still_live fits joins count roots links width nodes counts j few c.tended
            c.counted inside ready i live

        there_promoted : (k : ℕ)
            → suc j ≡ suc k
            → (state_at promoted k ≡ Live)
            × joins l (node_at promoted i).words (node_at promoted k).words
        there_promoted k is =
            subst (λ (n : ℕ).
            (state_at promoted n ≡ Live)
            × joins l (node_at promoted i).words (node_at promoted n).words)
            (same_number j k is) (
              promoted_state fits joins count roots links width nodes counts j few c.tended
                  c.counted inside ready,
              subst (λ (ws : List ℕ). joins l ws (node_at promoted j).words)
                  (sym (state_keeps_words nodes j i Live within))
                  (subst (λ (ws : List ℕ). joins l (node_at nodes i).words ws)
                  (sym (state_keeps_words nodes j j Live within)) joined),
            )
          where
            same_number : (a b : ℕ) → suc a ≡ suc b → a ≡ b
            same_number a b e = omega (arith, e)

        rising_promoted : (k : ℕ) → state_at promoted k ≡ Live → roots ≤ k
            → (suc j ≡ suc k) ⊎ (0 < slice_index new k)
        rising_promoted = promoted_up fits joins count roots links width nodes counts j few c.tended
            c.counted inside ready new counted_promoted

        pub published_starts : IsCollecting count roots links
            (renewed promoted i (linked_to l (suc j))) (renewed promoted i (linked_to l (suc j)))
            (counted_up new (suc j)) unlinking 0 0 (slice_index (node_at nodes i).links l ∷ [])
        published_starts =
            subst (λ (cells : List ℕ). IsCollecting count roots links
            (renewed promoted i (linked_to l (suc j))) (renewed promoted i (linked_to l (suc j)))
            (counted_up new (suc j)) unlinking 0 0 (slice_index cells l ∷ []))
            (state_keeps_links nodes j i Live within)
            (starts_collecting fits joins count roots links width promoted new unlinking i l (suc j)
            few_promoted sizes_promoted many c.room whole_promoted counted_promoted rising_promoted
            live_promoted low there_promoted)

        pub published_whole : AreWhole fits joins count roots links width
            (renewed promoted i (linked_to l (suc j)))
        published_whole = stored_whole fits joins count roots links width promoted new unlinking i l
            (suc j) few_promoted sizes_promoted many c.room whole_promoted counted_promoted
            rising_promoted live_promoted low there_promoted

        pub new_fits : (k : ℕ) → k < count → slice_index new k ≤ links * count
        new_fits k small = let a = are k small in let b = counts_fit k small in omega (arith, a, b)

-- the word of such a link fits
pub word_fits : (to : Option ℕ) (count most : ℕ) → IsInside count (word_to to) → count ≤ most
    → IfSome to (λ node. node < most)
word_fits None count most inside fit = tt
word_fits (Some node) count most inside fit = let low = inside node refl in omega (arith, low, fit)

-- of equal nodes, counts and words
pub same_collecting : (count roots links : ℕ) (stored stored' nodes nodes' : List Node)
    (counts counts' unlinking unlinking' : List ℕ) (from to : ℕ) (words words' : List ℕ)
    → stored ≡ stored'
    → nodes ≡ nodes'
    → counts ≡ counts'
    → unlinking ≡ unlinking'
    → words ≡ words'
    → IsCollecting count roots links stored' nodes' counts' unlinking' from to words'
    → IsCollecting count roots links stored nodes counts unlinking from to words
same_collecting count roots links stored stored' nodes nodes' counts counts' unlinking
    unlinking' from
    to words words' a b d e f t =
    subst (λ (l : List Node). IsCollecting count roots links l nodes counts unlinking from to words)
    (sym a)
    (subst (λ (l : List Node). IsCollecting count roots links stored' l counts unlinking from
    to words) (sym b)
    (subst (λ (l : List ℕ). IsCollecting count roots links stored' nodes' l unlinking from to words)
    (sym d)
    (subst (λ (l : List ℕ). IsCollecting count roots links stored' nodes' counts' l from to words)
    (sym e)
    (subst (λ (l : List ℕ). IsCollecting count roots links stored' nodes' counts' unlinking'
    from to l) (sym f) t))))

-- a link is released: nowhere, to a node that stays, or to one that is unlinked
module _ (count roots links : ℕ) (stored nodes : List Node) (counts unlinking : List ℕ)
    (from to : ℕ)
    (words : List ℕ) where
  pub released_nowhere : (word : ℕ)
      → word ≡ 0 → IsCollecting count roots links stored nodes counts unlinking from to
      (word ∷ words)
      → IsCollecting count roots links stored nodes counts unlinking from to words
  released_nowhere word e t =
      none_released count roots links stored nodes counts unlinking from to words
      (subst
      (λ (w : ℕ). IsCollecting count roots links stored nodes counts unlinking from to
      (w ∷ words)) e t)

  module _ (i word : ℕ) (e : suc i ≡ word)
      (t : IsCollecting count roots links stored nodes counts unlinking from to
      (word ∷ words)) where
    turned : IsCollecting count roots links stored nodes counts unlinking from to (suc i ∷ words)
    turned =
        subst
        (λ (w : ℕ). IsCollecting count roots links stored nodes counts unlinking from to
        (w ∷ words))
        (sym e) t

    pub led_inside : i < count
    led_inside =
        owed_is_inside count roots links stored nodes counts unlinking from to words i turned

    pub led_within : i < length counts
    led_within = let a = led_inside in let b = t.counts_many in omega (arith, a, b)

    pub led_counted : 0 < slice_index counts i
    led_counted =
        let a =
        owed_is_counted count roots links stored nodes counts unlinking from to words i turned in
        omega (arith, a)

    module _ (x : ℕ) (less : x + 1 ≡ slice_index counts i) where
      pub released_kept : (state_at nodes i ≡ Live → roots ≤ i → 0 < x)
          → IsCollecting count roots links stored nodes (set counts i x) unlinking from to words
      released_kept stays =
          kept_released count roots links stored nodes counts unlinking from to words i
          x turned less stays

      module _ (live : state_at nodes i ≡ Live) (past : roots ≤ i) (last : x ≡ 0) where
        pub released_unlinked : IsUnlinked links nodes i
        released_unlinked = none_lead links nodes i
            (unlinked count roots links stored nodes counts unlinking from to words i x turned less
            live past last)

        pub released_marked : IsCollecting count roots links stored
            (renewed nodes i (in_state Unlinked))
            (set counts i x) (set unlinking to i) from (to + 1) words
        released_marked =
            unlinked_released count roots links stored nodes counts unlinking from to words i x
            turned less live past last
