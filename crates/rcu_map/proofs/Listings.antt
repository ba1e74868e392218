-- A section that went over all chains came to each key that was linked all the while.
use Rattle.std.proofs.Common.{◌≡◌, ℕ, zero, suc, ◌+◌, ◌<◌, ◌≤◌, List, [], ◌∷◌, ◌++◌, Bool, Option}
use Rattle.std.proofs.Common.{None, refl, sym, ap, subst, inl, inr, arith}
use Rattle.std.specs.Prelude.{IsSome}
use mathlib.Core.Logic.{dite}
use native.Mathlib.Decide.{dec_lt, ℕ_discrete}
use Rattle.rcu_graph.specs.Absence.{AreMadeBy, IsHistory, IsLinkedKey}
use Rattle.rcu_graph.specs.Search.{Decides, IsPath, IsSearched, key_after}
use Rattle.rcu_graph.specs.declared.known.Hop.{Hop}
use Rattle.rcu_graph.specs.declared.known.Known.{Known}
use Rattle.rcu_graph.specs.declared.known.Known.TheVariants.{Reader}
use Rattle.rcu_graph.specs.declared.known.Node.{Node}
use Rattle.rcu_map.specs.Keys.{bucket_of}
use Rattle.rcu_map.specs.Listing.{GoOn, GoesOn, IsListed, at_root, led_from}
use Rattle.rcu_map.specs.declared.cursor.Cursor.{Cursor}

pub go_on_further : (buckets seed : ℕ) (start mid at : Cursor) (before after : List Hop)
    → GoOn buckets seed start before mid → GoOn buckets seed mid after at
    → GoOn buckets seed start (after ++ before) at
go_on_further buckets seed start mid at before [] first none =
    subst (GoOn buckets seed start before) (sym none) first
go_on_further buckets seed start mid at before (hop ∷ after) first more =
    (more.0, go_on_further buckets seed start mid more.0 before after first more.1, more.2, more.3)

-- hops that were made by a moment, less the latest ones, and less the first ones
made_before : (nodes : ℕ → List Node) (newer hops : List Hop) (t last : ℕ)
    → t ≤ last → AreMadeBy nodes t (newer ++ hops) → AreMadeBy nodes last hops
made_before nodes [] [] t last up made = tt
made_before nodes [] (hop ∷ hops) t last up made =
    let by : made.0 ≤ t = made.1 in (made.0, omega (arith, by, up), made.2, made.3)
made_before nodes (hop ∷ newer) hops t last up made =
    let by : made.0 ≤ t = made.1 in
    made_before nodes newer hops made.0 last (omega (arith, by, up)) made.3

made_after : (nodes : ℕ → List Node) (hops older : List Hop) (t : ℕ)
    → AreMadeBy nodes t (hops ++ older) → AreMadeBy nodes t hops
made_after nodes [] older t made = tt
made_after nodes (hop ∷ hops) older t made = (
  made.0,
  made.1,
  made.2,
  made_after nodes hops older made.0 made.3,
)

module _ (root key : ℕ) where
  -- the latest hops are a path from the root over lesser keys to the cursor
  pub record IsOnWay (hops : List Hop) (at : Cursor) : Type 0 where
    pub here : at.bucket ≡ root
    pub low : at.key < key
    pub path : List Hop
    pub older : List Hop
    pub are : hops ≡ path ++ older
    pub is_path : IsPath root key path at.node

  -- a search for the key among the hops found nothing
  pub record IsMissed (hops : List Hop) : Type 0 where
    pub newer : List Hop
    pub last : Hop
    pub path : List Hop
    pub older : List Hop
    pub are : hops ≡ newer ++ (last ∷ (path ++ older))
    pub is_path : IsPath root key path last.from
    pub along : last.link ≡ 0
    pub decided : Decides key None last

  -- how far the hops went: not to the root's chain, on their way in it, or past the key's place
  pub data Progress (hops : List Hop) (at : Cursor) : Type 0 where
    before : at.bucket < root → Progress hops at
    on_way : IsOnWay hops at → Progress hops at
    listed : IsListed key hops → Progress hops at
    missed : IsMissed hops → Progress hops at

  still_listed : (hop : Hop) (hops : List Hop) → IsListed key hops → IsListed key (hop ∷ hops)
  still_listed hop hops l = record {
    index = suc l.index;
    hop = l.hop;
    there = l.there;
    node = l.node;
    led = l.led;
    has = l.has;
  }

  still_missed : (hop : Hop) (hops : List Hop) → IsMissed hops → IsMissed (hop ∷ hops)
  still_missed hop hops m = record {
    newer = hop ∷ m.newer;
    last = m.last;
    path = m.path;
    older = m.older;
    are = ap (λ (l : List Hop). hop ∷ l) m.are;
    is_path = m.is_path;
    along = m.along;
    decided = m.decided;
  }

  -- a hop that led nowhere, and one that led to a node
  module _ (buckets seed : ℕ) (hop : Hop) (hops : List Hop) (last : Cursor)
      (goes : GoesOn buckets seed last hop) where
    nowhere : 0 < key → hop.to ≡ 0 → Progress hops last
        → Progress (hop ∷ hops) (at_root (last.bucket + 1))
    nowhere keyed none (before low) = dite (ℕ_discrete (last.bucket + 1) root)
        (λ (e : last.bucket + 1 ≡ root). on_way (record {
          here = e;
          low = keyed;
          path = [];
          older = hop ∷ hops;
          are = refl;
          is_path = e;
        }))
        (λ (ne : last.bucket + 1 ≡ root → ⊥). before (omega (arith, low, ne)))
    nowhere keyed none (on_way w) = missed (record {
      newer = [];
      last = hop;
      path = w.path;
      older = w.older;
      are = ap (λ (l : List Hop). hop ∷ l) w.are;
      is_path = subst (IsPath root key w.path) (sym goes.here) w.is_path;
      along = goes.along;
      decided = inl none;
    })
    nowhere keyed none (listed l) = listed (still_listed hop hops l)
    nowhere keyed none (missed m) = missed (still_missed hop hops m)

    to_node : (node : ℕ) → hop.to ≡ suc node → Progress hops last
        → Progress (hop ∷ hops) (record { bucket = last.bucket; node = node; key = key_after hop })
    to_node node led (before low) = before low
    to_node node led (on_way w) =
        dite (ℕ_discrete (key_after hop) key)
        (λ (e : key_after hop ≡ key). listed (record {
          index = 0;
          hop = hop;
          there = refl;
          node = node;
          led = led;
          has = e;
        }))
        (λ (ne : key_after hop ≡ key → ⊥).
        dite (dec_lt (key_after hop) key)
        (λ (low : key_after hop < key). on_way (record {
          here = w.here;
          low = low;
          path = hop ∷ w.path;
          older = w.older;
          are = ap (λ (l : List Hop). hop ∷ l) w.are;
          is_path = (
            led,
            goes.along,
            low,
            subst (IsPath root key w.path) (sym goes.here) w.is_path,
          );
        }))
        (λ (high : key_after hop < key → ⊥). missed (record {
          newer = [];
          last = hop;
          path = w.path;
          older = w.older;
          are = ap (λ (l : List Hop). hop ∷ l) w.are;
          is_path = subst (IsPath root key w.path) (sym goes.here) w.is_path;
          along = goes.along;
          decided = inr (omega (arith, high, ne));
        })))
    to_node node led (listed l) = listed (still_listed hop hops l)
    to_node node led (missed m) = missed (still_missed hop hops m)

    steps : (to : ℕ) → hop.to ≡ to → 0 < key → Progress hops last
        → Progress (hop ∷ hops) (led_from last to (key_after hop))
    steps zero led keyed p = nowhere keyed led p
    steps (suc node) led keyed p = to_node node led p

  pub progress : (buckets seed first : ℕ) (hops : List Hop) (at : Cursor)
      → first ≤ root → 0 < key → GoOn buckets seed (at_root first) hops at → Progress hops at
  progress buckets seed first [] at low keyed none =
      subst (Progress []) (sym none) (dite (ℕ_discrete first root)
      (λ (e : first ≡ root). on_way (record {
        here = e;
        low = keyed;
        path = [];
        older = [];
        are = refl;
        is_path = e;
      }))
      (λ (ne : first ≡ root → ⊥). before (omega (arith, low, ne))))
  progress buckets seed first (hop ∷ hops) at low keyed g =
      subst (Progress (hop ∷ hops)) (sym g.3)
      (steps buckets seed hop hops g.0 g.2 hop.to refl keyed
      (progress buckets seed first hops g.0 low keyed g.1))

nothing : IsSome {T = ℕ} None → ⊥
nothing e = cc

module _
    (found : (ours : List ℕ → Bool) (opened root key last : ℕ) (nodes : ℕ → List Node)
    (was now : Known) (found : Option ℕ) (search : IsSearched root key was found now)
    → IsHistory ours opened root last nodes
    → ((t : ℕ) → t ≤ last → IsLinkedKey root key (nodes t))
    → AreMadeBy nodes last (search.last ∷ search.path)
    → IsSome found) where
  -- no search among the hops missed the key
  pub not_missed : (ours : List ℕ → Bool) (opened root key last : ℕ) (nodes : ℕ → List Node)
      (hops : List Hop)
      → IsHistory ours opened root last nodes
      → ((t : ℕ) → t ≤ last → IsLinkedKey root key (nodes t))
      → AreMadeBy nodes last hops
      → IsMissed root key hops
      → ⊥
  not_missed ours opened root key last nodes hops history linked made m =
      let rest = made_before nodes m.newer (m.last ∷ (m.path ++ m.older)) last last
      (omega arith) (subst (AreMadeBy nodes last) m.are made) in
      nothing (found ours opened root key last nodes (Reader m.older)
      (Reader (m.last ∷ (m.path ++ m.older))) None
      (record {
        path = m.path;
        last = m.last;
        are = refl;
        is_path = m.is_path;
        along = m.along;
        decided = m.decided;
      })
      history linked (made_after nodes (m.last ∷ m.path) m.older last rest))

  pub are_listed : (ours : List ℕ → Bool) (opened buckets seed key last : ℕ) (nodes : ℕ → List Node)
      (hops : List Hop) (at : Cursor)
      → bucket_of buckets seed key < buckets
      → 0 < key
      → GoOn buckets seed (at_root 0) hops at
      → at.bucket ≡ buckets
      → IsHistory ours opened (bucket_of buckets seed key) last nodes
      → ((t : ℕ) → t ≤ last → IsLinkedKey (bucket_of buckets seed key) key (nodes t))
      → AreMadeBy nodes last hops
      → IsListed key hops
  are_listed ours opened buckets seed key last nodes hops at low keyed goes ended history linked
      made =
      by (progress (bucket_of buckets seed key) key buckets seed 0 hops at (omega arith) keyed goes)
    where
      root : ℕ
      root = bucket_of buckets seed key

      by : Progress root key hops at → IsListed key hops
      by (before early) = absurd (omega (arith, early, ended, low))
      by (on_way w) =
          let here : at.bucket ≡ root = w.here in absurd (omega (arith, here, ended, low))
      by (listed l) = l
      by (missed m) =
          absurd (not_missed ours opened root key last nodes hops history linked made m)
