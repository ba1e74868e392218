-- A search does not pass a key that is linked from the section's beginning to the search's end.
use Rattle.std.proofs.Common.{◌≡◌, ◌⊎◌, ℕ, zero, suc, ◌+◌, ◌-◌, ◌<◌, ◌≤◌, List, [], ◌∷◌, Bool}
use Rattle.std.proofs.Common.{Option, Some, None, refl, sym, ap, ◌∙◌, subst, arith, ⊎_elim}
use Rattle.std.proofs.Math.Nat.{suc_inj}
use Rattle.std.specs.Prelude.{IsSome, IsTrue, slice_index}
use Rattle.rcu_graph.specs.Absence.{AreLinkedWords, AreMadeBy, IsHistory, IsLinkedKey, IsTrueOf}
use Rattle.rcu_graph.specs.Absence.{Reaches, arrived, key_at, next_of, onwards}
use Rattle.rcu_graph.specs.Nodes.{MayRead, node_at, state_at}
use Rattle.rcu_graph.specs.Search.{Decides, IsPath, IsSearched, key_after}
use Rattle.rcu_graph.specs.declared.known.Hop.{Hop}
use Rattle.rcu_graph.specs.declared.known.Known.{Known}
use Rattle.rcu_graph.specs.declared.known.Node.{Node}
use Rattle.rcu_graph.specs.declared.node_state.NodeState.{NodeState}
use Rattle.rcu_graph.specs.declared.node_state.NodeState.TheVariants.{Live}
use Rattle.rcu_graph.proofs.Chains.{leads_on, live_to, stays_or_on, stays_readable}

may_live : (opened : ℕ) (st : NodeState) → st ≡ Live → MayRead opened st
may_live opened st live = subst (MayRead opened) (sym live) tt

module _ (ours : List ℕ → Bool) (opened root last : ℕ) (nodes : ℕ → List Node)
    (history : IsHistory ours opened root last nodes) where
  -- a node that was on the chain at one moment is one that the section may be on, with its words,
  -- at each later one
  stays : (j s d t : ℕ)
      → t ≡ s + d
      → t ≤ last
      → Reaches (nodes s) j root
      → MayRead opened (state_at (nodes t) j)
      × ((node_at (nodes t) j).words ≡ (node_at (nodes s) j).words)
  stays j s zero t e up r =
      let now : s ≡ t = omega (arith, e) in
      let c = history.chained s (omega (arith, e, up)) in
      subst (λ (n : ℕ).
      MayRead opened (state_at (nodes n) j)
      × ((node_at (nodes n) j).words ≡ (node_at (nodes s) j).words))
      now (
        may_live opened (state_at (nodes s) j) (live_to (nodes s) ours root c j root r c.rooted).0,
        refl,
      )
  stays j s (suc d) t e up r =
      let u : ℕ = s + d in
      let next : suc u ≡ t = omega (arith, e) in
      let was = stays j s d u refl (omega (arith, e, up)) r in
      let then = stays_readable opened ours root (nodes u) (nodes (suc u)) j
      (history.steps u (omega (arith, e, up))) was.0 in
      subst (λ (n : ℕ).
      MayRead opened (state_at (nodes n) j)
      × ((node_at (nodes n) j).words ≡ (node_at (nodes s) j).words))
      next (then.0, then.1 ∙ was.1)

  -- a node that was on the chain leads on as it did, or is on the chain again
  stays_or_returns : (j s d : ℕ) → s + d < last → Reaches (nodes s) j root
      → (next_of (nodes (suc (s + d))) j ≡ next_of (nodes (s + d)) j)
      ⊎ Reaches (nodes (suc (s + d))) j root
  stays_or_returns j s d under r =
      let u : ℕ = s + d in
      let below : u ≤ last = omega (arith, under) in
      let mine = stays j s d u refl below r in
      let start = history.chained s (omega (arith, under)) in
      let own : IsTrue (ours (node_at (nodes s) j).words) =
      (live_to (nodes s) ours root start j root r start.rooted).2 start.own in
      stays_or_on opened ours root (nodes u) j (history.chained u below) mine.0
      (subst (λ (words : List ℕ). IsTrue (ours words)) (sym mine.1) own) (nodes (suc u))
      (history.steps u under)

  -- by this moment the node was on the chain
  record WasOn (t j : ℕ) : Type 0 where
    pub seen : ℕ
    pub by : seen ≤ t
    pub reached : Reaches (nodes seen) j root

  -- or behind the root
  record WasBehind (t j : ℕ) : Type 0 where
    pub seen : ℕ
    pub by : seen ≤ t
    pub begin : ℕ
    pub begins : next_of (nodes seen) root ≡ suc begin
    pub reached : Reaches (nodes seen) j begin

  further : (now : List Node) (j to from : ℕ) → next_of now j ≡ suc to → Reaches now j from
      → Reaches now to from
  further now j to from leads (arrived _ e) =
      onwards from to (ap (next_of now) e ∙ leads) (arrived to refl)
  further now j to from leads (onwards _ n is r) =
      onwards from n is (further now j to n leads r)

  behind_now : (t j to : ℕ) → next_of (nodes t) j ≡ suc to → Reaches (nodes t) j root
      → WasBehind t to
  behind_now t j to leads (arrived _ e) = record {
    seen = t;
    by = omega arith;
    begin = to;
    begins = ap (next_of (nodes t)) e ∙ leads;
    reached = arrived to refl;
  }
  behind_now t j to leads (onwards _ n is r) = record {
    seen = t;
    by = omega arith;
    begin = n;
    begins = is;
    reached = further (nodes t) j to n leads r;
  }

  -- the chain led to each node to which a node of the chain leads
  led_behind : (j s d t to : ℕ)
      → t ≡ s + d → t ≤ last → Reaches (nodes s) j root → next_of (nodes t) j ≡ suc to
      → WasBehind t to
  led_behind j s zero t to e up r leads =
      let now : t ≡ s = omega (arith, e) in
      subst (λ (n : ℕ). WasBehind n to) (sym now)
      (behind_now s j to (subst (λ (n : ℕ). next_of (nodes n) j ≡ suc to) now leads) r)
  led_behind j s (suc d) t to e up r leads =
      let u : ℕ = s + d in
      let next : t ≡ suc u = omega (arith, e) in
      let under : u < last = omega (arith, e, up) in
      let here : next_of (nodes (suc u)) j ≡ suc to =
      subst (λ (n : ℕ). next_of (nodes n) j ≡ suc to) next leads in
      subst (λ (n : ℕ). WasBehind n to) (sym next)
      (⊎_elim
      (λ (kept : next_of (nodes (suc u)) j ≡ next_of (nodes u) j).
      let was : WasBehind u to =
      led_behind j s d u to refl (omega (arith, under)) r (sym kept ∙ here) in
      let b = was.by in record {
        seen = was.seen;
        by = omega (arith, b);
        begin = was.begin;
        begins = was.begins;
        reached = was.reached;
      })
      (λ (on : Reaches (nodes (suc u)) j root). behind_now (suc u) j to here on)
      (stays_or_returns j s d under r))

  hop_behind : (u t : ℕ) (hop : Hop) (to : ℕ)
      → u ≤ t → t ≤ last → WasOn u hop.from → hop.link ≡ 0 → hop.to ≡ suc to
      → IsTrueOf (nodes t) hop
      → WasBehind t to
  hop_behind u t hop to up end p along is true =
      let b = p.by in
      led_behind hop.from p.seen (t - p.seen) t to (omega (arith, b, up)) end p.reached
      (sym (ap (λ (l : ℕ). slice_index (node_at (nodes t) hop.from).links l) along)
      ∙ (sym true.to ∙ is))

  was_on : (key : ℕ) (path : List Hop) (node t : ℕ)
      → t ≤ last → IsPath root key path node → AreMadeBy nodes t path → WasOn t node
  was_on key [] node t end is made = record {
    seen = 0;
    by = omega arith;
    reached = arrived root (sym is);
  }
  was_on key (hop ∷ before) node t end is made =
      let when : ℕ = made.0 in
      let by : when ≤ t = made.1 in
      let p : WasOn when hop.from =
      was_on key before hop.from when (omega (arith, by, end)) is.3 made.3 in
      let w : WasBehind when node = hop_behind when when hop node (omega arith)
      (omega (arith, by, end)) p is.1 is.0 made.2 in
      let b = w.by in record {
        seen = w.seen;
        by = omega (arith, b, by);
        reached = onwards root w.begin w.begins w.reached;
      }

  -- a node that a search found was behind the root by then, and these are its words since
  found_behind : (key : ℕ) (was now : Known) (node : ℕ)
      (search : IsSearched root key was (Some node) now)
      (made : AreMadeBy nodes last (search.last ∷ search.path)) → WasBehind made.0 node
  found_behind key was now node search made =
      hop_behind made.0 made.0 search.last node (omega arith) made.1
      (was_on key search.path search.last.from made.0 made.1 search.is_path made.3)
      search.along search.decided.0 made.2

  -- so were the words that the node has in the end
  pub words_were_linked : (key : ℕ) (was now : Known) (node : ℕ)
      (search : IsSearched root key was (Some node) now) (words : List ℕ)
      → AreMadeBy nodes last (search.last ∷ search.path)
      → (node_at (nodes last) node).words ≡ words
      → (t : ℕ) × (t ≤ last) × AreLinkedWords root words (nodes t)
  words_were_linked key was now node search words made is =
      let w : WasBehind made.0 node = found_behind key was now node search made in
      let b = w.by in
      let low = made.1 in
      let kept = stays node w.seen (last - w.seen) last (omega (arith, b, low)) (omega arith)
      (onwards root w.begin w.begins w.reached) in (
        w.seen,
        omega (arith, b, low),
        record {
          begin = w.begin;
          holder = node;
          begins = w.begins;
          reached = w.reached;
          are = sym kept.1 ∙ is;
        },
      )

  pub was_linked : (key : ℕ) (was now : Known) (node : ℕ)
      (search : IsSearched root key was (Some node) now)
      → AreMadeBy nodes last (search.last ∷ search.path)
      → (t : ℕ) × (t ≤ last) × IsLinkedKey root key (nodes t)
  was_linked key was now node search made =
      let when : ℕ = made.0 in
      let w : WasBehind when node = found_behind key was now node search made in
      let b = w.by in
      let kept = stays node w.seen (when - w.seen) when (omega (arith, b)) made.1
      (onwards root w.begin w.begins w.reached) in (
        w.seen,
        let low = made.1 in omega (arith, b, low),
        record {
          begin = w.begin;
          holder = node;
          begins = w.begins;
          reached = w.reached;
          has = ap (λ (words : List ℕ). slice_index words 0)
              (sym kept.1 ∙ sym (made.2.words node search.decided.0))
              ∙ search.decided.1;
        },
      )

module _ (ours : List ℕ → Bool) (opened root key last : ℕ) (nodes : ℕ → List Node)
    (history : IsHistory ours opened root last nodes)
    (linked : (t : ℕ) → t ≤ last → IsLinkedKey root key (nodes t)) where
  -- at this moment the node j leads to one that was on the chain by then, with a key that is at
  -- most the one sought
  record LeadsOn (t j : ℕ) : Type 0 where
    pub to : ℕ
    pub is : next_of (nodes t) j ≡ suc to
    pub seen : ℕ
    pub by : seen ≤ t
    pub reached : Reaches (nodes seen) to root
    pub most : key_at (nodes seen) to ≤ key

  leads_now : (t j : ℕ) → t ≤ last → Reaches (nodes t) j root → key_at (nodes t) j < key
      → LeadsOn t j
  leads_now t j up r low =
      let k = linked t up in
      let c = history.chained t up in
      let less : key_at (nodes t) j < key_at (nodes t) k.holder =
      let h = k.has in omega (arith, h, low) in
      let n = leads_on (nodes t) ours root c j k.holder root c.rooted r
      (onwards root k.begin k.begins k.reached) less in
      record {
        to = n.0;
        is = n.1;
        seen = t;
        by = omega arith;
        reached = n.2;
        most = let h = k.has in let m = n.3 in omega (arith, h, m);
      }

  leads_later : (j s d t : ℕ)
      → t ≡ s + d → t ≤ last → Reaches (nodes s) j root → key_at (nodes s) j < key → LeadsOn t j
  leads_later j s zero t e up r low =
      let now : s ≡ t = omega (arith, e) in
      subst (λ (n : ℕ). LeadsOn n j) now (leads_now s j (omega (arith, e, up)) r low)
  leads_later j s (suc d) t e up r low =
      let u : ℕ = s + d in
      let next : suc u ≡ t = omega (arith, e) in
      let below : u ≤ last = omega (arith, e, up) in
      let under : u < last = omega (arith, e, up) in
      let was : LeadsOn u j = leads_later j s d u refl below r low in
      let after = stays ours opened root last nodes history j s (suc d) (suc u) (omega arith)
      (omega (arith, under)) r in
      let same : key_at (nodes (suc u)) j ≡ key_at (nodes s) j =
      ap (λ (words : List ℕ). slice_index words 0) after.1 in
      subst (λ (n : ℕ). LeadsOn n j) next
      (⊎_elim
      (λ (kept : next_of (nodes (suc u)) j ≡ next_of (nodes u) j). record {
        to = was.to;
        is = kept ∙ was.is;
        seen = was.seen;
        by = let b = was.by in omega (arith, b);
        reached = was.reached;
        most = was.most;
      })
      (λ (on : Reaches (nodes (suc u)) j root).
      leads_now (suc u) j (omega (arith, under)) on (omega (arith, same, low)))
      (stays_or_returns ours opened root last nodes history j s d under r))

  -- by this moment the node j was on the chain, and had a key below the one sought
  record IsPassed (t j : ℕ) : Type 0 where
    pub seen : ℕ
    pub by : seen ≤ t
    pub reached : Reaches (nodes seen) j root
    pub low : key_at (nodes seen) j < key

  begins : (t : ℕ) → IsPassed t root
  begins t =
      let c = history.chained 0 (omega arith) in
      let k = linked 0 (omega arith) in
      let up = c.ascends root k.begin c.rooted k.begins in
      let rest =
      (live_to (nodes 0) ours root c k.holder k.begin k.reached
      (c.live root k.begin c.rooted k.begins)).1 in
      let h = k.has in
      record {
        seen = 0;
        by = omega arith;
        reached = arrived root refl;
        low = omega (arith, up, rest, h);
      }

  -- the result of a hop from a passed node
  record IsFoundBy (t : ℕ) (hop : Hop) : Type 0 where
    pub to : ℕ
    pub is : hop.to ≡ suc to
    pub seen : ℕ
    pub by : seen ≤ t
    pub reached : Reaches (nodes seen) to root
    pub same : key_after hop ≡ key_at (nodes seen) to
    pub most : key_at (nodes seen) to ≤ key

  hops_on : (u t : ℕ) (hop : Hop)
      → u ≤ t → t ≤ last → IsPassed u hop.from → hop.link ≡ 0 → IsTrueOf (nodes t) hop
      → IsFoundBy t hop
  hops_on u t hop up end p along true =
      let b = p.by in
      let n : LeadsOn t hop.from = later (t - p.seen) (omega (arith, b, up)) in
      let is : hop.to ≡ suc n.to =
      true.to ∙ (ap (λ (l : ℕ). slice_index (node_at (nodes t) hop.from).links l) along ∙ n.is) in
      let m = n.by in
      let kept = stays ours opened root last nodes history n.to n.seen (t - n.seen) t
      (omega (arith, m)) end n.reached in record {
        to = n.to;
        is = is;
        seen = n.seen;
        by = n.by;
        reached = n.reached;
        same = ap (λ (words : List ℕ). slice_index words 0) (true.words n.to is ∙ kept.1);
        most = n.most;
      }
    where
      later : (d : ℕ) → t ≡ p.seen + d → LeadsOn t hop.from
      later d e = leads_later hop.from p.seen d t e end p.reached p.low

  passes : (path : List Hop) (node t : ℕ)
      → t ≤ last → IsPath root key path node → AreMadeBy nodes t path → IsPassed t node
  passes [] node t end is made = subst (IsPassed t) (sym is) (begins t)
  passes (hop ∷ before) node t end is made =
      let when : ℕ = made.0 in
      let by : when ≤ t = made.1 in
      let p : IsPassed when hop.from =
      passes before hop.from when (omega (arith, by, end)) is.3 made.3 in
      let f : IsFoundBy when hop =
      hops_on when when hop (omega arith) (omega (arith, by, end)) p is.1 made.2 in
      let one : f.to ≡ node = suc_inj (sym f.is ∙ is.0) in
      let b = f.by in
      let s = f.same in
      let l = is.2 in record {
        seen = f.seen;
        by = omega (arith, b, by);
        reached = subst (λ (n : ℕ). Reaches (nodes f.seen) n root) one f.reached;
        low = subst (λ (n : ℕ). key_at (nodes f.seen) n < key) one (omega (arith, s, l));
      }

  pub not_absent : (was now : Known) (found : Option ℕ) (search : IsSearched root key was found now)
      → AreMadeBy nodes last (search.last ∷ search.path) → IsSome found
  not_absent was now found search made =
      let when : ℕ = made.0 in
      let p : IsPassed when search.last.from =
      passes search.path search.last.from when made.1 search.is_path made.3 in
      let f : IsFoundBy when search.last =
      hops_on when when search.last (omega arith) made.1 p search.along made.2 in
      by found search.decided f
    where
      by : (o : Option ℕ) → Decides key o search.last → IsFoundBy made.0 search.last → IsSome o
      by (Some node) d f = refl
      by None d f = absurd (⊎_elim
          (λ (nowhere : search.last.to ≡ 0). let i = f.is in omega (arith, nowhere, i))
          (λ (past : key < key_after search.last).
          let s = f.same in let m = f.most in omega (arith, past, s, m))
          d)
