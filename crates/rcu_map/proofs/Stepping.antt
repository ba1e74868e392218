-- A section goes on from a cursor by one hop.
use Rattle.std.proofs.Common.{◌≡◌, ℕ, zero, suc, ◌+◌, ◌<◌, ◌≤◌, ◌==◌, List, [], ◌∷◌, ◌++◌, ◌^◌}
use Rattle.std.proofs.Common.{Some, Bool, true, false, replicate, refl, sym, ap, ◌∙◌, subst, inl}
use Rattle.std.proofs.Common.{inr, arith}
use Rattle.std.specs.Prelude.{if◌then◌else◌, slice_index}
use Rattle.std.proofs.lemmas.Bool.Decides.{nat_tests}
use Rattle.std.proofs.lemmas.List.{get_or-set_same}
use mathlib.Core.Option.{some}
use mathlib.Core.Logic.{dite}
use native.Mathlib.Decide.{ℕ_discrete}
use lib.ListN.{get_elem?}
use Rattle.rcu_live.specs.Board.{Object}
use Rattle.rcu_live.specs.CpuSeat.{Seated, after_word_step}
use Rattle.rcu_graph.specs.Graph.{IsWalking}
use Rattle.rcu_graph.specs.Nodes.{IsHeld, IsOn, hops_in}
use Rattle.rcu_graph.specs.Search.{key_after}
use Rattle.rcu_graph.specs.Steps.{Followed}
use Rattle.rcu_graph.specs.declared.known.Hop.{Hop}
use Rattle.rcu_graph.specs.declared.known.Known.{Known}
use Rattle.rcu_graph.specs.declared.known.Planned.{Planned}
use Rattle.rcu_graph.proofs.Walking.{came_holds, came_to}
use Rattle.rcu_graph.specs.declared.plan.Plan.{Plan}
use Rattle.rcu_map.specs.Cursors.{HasListed, HasStepped, IsOnCursor, IsOnEntry, MayGoOn, latest_to}
use Rattle.rcu_map.specs.Cursors.{latest_words}
use Rattle.rcu_map.specs.Keys.{GoesUp, IsWhole, bucket_in, bucket_of, key_in, root_words}
use Rattle.rcu_map.specs.Listing.{GoOn, IsAtEnd, IsNextEntry, LedNowhere, at_root, led_from}
use Rattle.rcu_map.specs.Listing.{left_from}
use Rattle.rcu_map.specs.declared.cursor.Cursor.{Cursor}
use Rattle.rcu_map.proofs.Rows.{root_key, zeros}

-- of the words of a node: of a root, and of one that has a key
bucket_at_root : (buckets seed bucket width : ℕ) → 2 ≤ width
    → bucket_in buckets seed (root_words width bucket) ≡ bucket
bucket_at_root buckets seed bucket width keyed =
    let many = zeros width in
    let none : (key_in (root_words width bucket) == 0) ≡ true =
    let k = root_key width bucket in grind (arith, nat_tests) in
    ap (λ (b : Bool).
    if b
    then slice_index (root_words width bucket) 1
    else bucket_of buckets seed (key_in (root_words width bucket)))
    none
    ∙ get_or-set_same (replicate width 0) 1 bucket 0 (omega (arith, many, keyed))

bucket_keyed : (buckets seed : ℕ) (words : List ℕ) → 0 < key_in words
    → bucket_in buckets seed words ≡ bucket_of buckets seed (key_in words)
bucket_keyed buckets seed words keyed =
    let not_none : (key_in words == 0) ≡ false = grind (arith, nat_tests) in
    ap (λ (b : Bool). if b then slice_index words 1 else bucket_of buckets seed (key_in words))
    not_none

-- the node to which the latest hop led is held, with its words
latest_held : (known : Known) (node : ℕ) → latest_to (hops_in known) ≡ suc node
    → IsHeld known node (latest_words (hops_in known))
latest_held known node led = by (hops_in known) refl led
  where
    by : (hops : List Hop) → hops_in known ≡ hops → latest_to hops ≡ suc node
        → IsHeld known node (latest_words (hops_in known))
    by [] are none = absurd (omega (arith, none))
    by (hop ∷ before) are led = subst (λ (hops : List Hop).
        (k : ℕ)
        × (h : Hop)
        × (get_elem? hops k ≡ some h)
        × (h.to ≡ suc node)
        × (h.words ≡ latest_words hops))
        (sym are) (0, hop, refl, led, refl)

module _ (count buckets seed width : ℕ) (known : Known) (at : Cursor) where
  -- the words of the cursor's node
  pub record IsOnWords : Type 0 where
    pub words : List ℕ
    pub on : IsOn (root_words width) buckets known at.node words
    pub key : key_in words ≡ at.key
    pub bucket : bucket_in buckets seed words ≡ at.bucket

  pub on_words : 2 ≤ width → at.bucket < buckets → IsOnCursor count buckets seed known at →
      IsOnWords
  on_words keyed inside c = dite (ℕ_discrete at.key 0)
      (λ (none : at.key ≡ 0).
      let root : at.node ≡ at.bucket = c.root none in record {
        words = root_words width at.node;
        on = inl (omega (arith, root, inside), refl);
        key = root_key width at.node ∙ sym none;
        bucket = bucket_at_root buckets seed at.node width keyed ∙ root;
      })
      (λ (ne : at.key ≡ 0 → ⊥).
      let up : 0 < at.key = omega (arith, ne) in
      let is = c.key up in
      record {
        words = latest_words (hops_in known);
        on = inr (latest_held known at.node (c.led up));
        key = is;
        bucket =
            bucket_keyed buckets seed (latest_words (hops_in known)) (omega (arith, is, up))
            ∙ (ap (bucket_of buckets seed) is ∙ c.same up);
      })

-- a section may go on from the root of a bucket
pub may_begin : (map : Object Plan) (seat : Seated Planned) (bucket : ℕ) (at : Cursor)
    → IsWalking map seat → bucket ≤ map.plan.roots → map.plan.roots ≤ map.plan.nodes
    → at ≡ at_root bucket → MayGoOn map seat at
may_begin map seat bucket at walking low few is =
    subst (λ (c : Cursor). MayGoOn map seat c) (sym is) (record {
      walking = walking;
      within = low;
      small = omega arith;
      on = λ inside. record {
        inside = omega (arith, inside, few);
        root = λ none. refl;
        led = λ up. absurd (omega (arith, up));
        key = λ up. absurd (omega (arith, up));
        same = λ up. absurd (omega (arith, up));
      };
    })

module _ (holds : List ℕ → Type 0) (map : Object Plan) (old new : Seated Planned)
    (start : Cursor) (inside : start.bucket < map.plan.roots)
    (o : IsOnWords map.plan.nodes map.plan.roots map.plan.seed map.plan.words old.view.client.known
    start)
    (same : new ≡ after_word_step old new.view.client) (walking : IsWalking map new) where
  abbrev count : ℕ
  count = map.plan.nodes

  abbrev buckets : ℕ
  buckets = map.plan.roots

  abbrev width : ℕ
  width = map.plan.words

  abbrev seed : ℕ
  seed = map.plan.seed

  -- the link led nowhere
  pub stepped_over : buckets ≤ count
      → Followed (IsWhole holds width) (GoesUp buckets seed o.words) width count
      old.view.client.known
      start.node 0 0 new.view.client.known
      → HasStepped holds map old start new (at_root (start.bucket + 1))
  stepped_over few f = record {
    same = same;
    hop = record { from = start.node; link = 0; to = 0; words = f.words };
    are = ap hops_in f.is;
    goes = record {
      inside = inside;
      here = refl;
      along = refl;
      up = λ node led. absurd (omega (arith, led));
      same = λ node led. absurd (omega (arith, led));
    };
    led = refl;
    may = may_begin map new (start.bucket + 1) (at_root (start.bucket + 1)) walking
        (omega (arith, inside)) few refl;
    whole = λ up. absurd (omega (arith, up));
  }

  -- it led to a node
  pub stepped_on : (node key : ℕ)
      → (f : Followed (IsWhole holds width) (GoesUp buckets seed o.words) width count
      old.view.client.known
      start.node 0 (suc node) new.view.client.known)
      → ((words : List ℕ) → IsOn (root_words width) buckets new.view.client.known node words → key
      ≡ slice_index words 0)
      → key < 2 ^ 64
      → HasStepped holds map old start new
      (record { bucket = start.bucket; node = node; key = key })
  stepped_on node key f is small =
      let c = came_to (IsWhole holds width) (GoesUp buckets seed o.words) width count
      old.view.client.known
      start.node 0 node new.view.client.known f in
      let held = came_holds (IsWhole holds width) (GoesUp buckets seed o.words) width count
      old.view.client.known start.node 0 node new.view.client.known f in
      let told : key ≡ key_in f.words = is f.words (inr held) in
      let here = o.key in
      let up : start.key < key_in f.words = let u = c.joined.up in omega (arith, u, here) in
      let keyed : 0 < key_in f.words = omega (arith, up) in
      let stays : bucket_of buckets seed (key_in f.words) ≡ start.bucket =
      sym (bucket_keyed buckets seed f.words keyed) ∙ (sym c.joined.same ∙ o.bucket) in record {
        same = same;
        hop = record { from = start.node; link = 0; to = suc node; words = f.words };
        are = ap hops_in f.is;
        goes = record {
          inside = inside;
          here = refl;
          along = refl;
          up = λ other led. up;
          same = λ other led. stays;
        };
        led = ap (λ (k : ℕ). record { bucket = start.bucket; node = node; key = k }) told;
        may = record {
          walking = walking;
          within = omega (arith, inside);
          small = small;
          on = λ low. record {
            inside = c.inside;
            root = λ none. absurd (omega (arith, none, told, keyed));
            led = λ more. ap (λ (k : Known). latest_to (hops_in k)) f.is;
            key = λ more. ap (λ (k : Known). key_in (latest_words (hops_in k))) f.is ∙ sym told;
            same = λ more. ap (bucket_of buckets seed) told ∙ stays;
          };
        };
        whole = λ more. c.whole;
      }

module _ (holds : List ℕ → Type 0) (map : Object Plan) (old new : Seated Planned)
    (start at : Cursor) (s : HasStepped holds map old start new at) where
  led_to : (to : ℕ) → s.hop.to ≡ to → at ≡ led_from start to (key_after s.hop)
  led_to to e = s.led ∙ ap (λ (n : ℕ). led_from start n (key_after s.hop)) e

  -- it led nowhere if there is no key
  pub went_over : at.key ≡ 0 → (s.hop.to ≡ 0) × (at ≡ at_root (start.bucket + 1))
  went_over none = by s.hop.to refl
    where
      by : (to : ℕ) → s.hop.to ≡ to → (s.hop.to ≡ 0) × (at ≡ at_root (start.bucket + 1))
      by zero e = (e, led_to zero e)
      by (suc node) e =
          let is : at.key ≡ key_after s.hop = ap (λ (c : Cursor). c.key) (led_to (suc node) e) in
          let up = s.goes.up node e in absurd (omega (arith, is, up, none))

  -- and else to the node of the key
  pub record HasLed : Type 0 where
    pub to : s.hop.to ≡ suc at.node
    pub key : key_after s.hop ≡ at.key
    pub bucket : at.bucket ≡ start.bucket
    pub up : start.key < at.key

  pub went_on : 0 < at.key → HasLed
  went_on keyed = by s.hop.to refl
    where
      by : (to : ℕ) → s.hop.to ≡ to → HasLed
      by zero e =
          let none : at.key ≡ 0 = ap (λ (c : Cursor). c.key) (led_to zero e) in
          absurd (omega (arith, none, keyed))
      by (suc node) e =
          let here = led_to (suc node) e in
          let is : at.key ≡ key_after s.hop = ap (λ (c : Cursor). c.key) here in
          let up = s.goes.up node e in record {
            to = e ∙ ap suc (sym (ap (λ (c : Cursor). c.node) here));
            key = sym is;
            bucket = ap (λ (c : Cursor). c.bucket) here;
            up = omega (arith, is, up);
          }

  pub step_held : 0 < at.key → IsHeld new.view.client.known at.node s.hop.words
  step_held keyed =
      let w = went_on keyed in
      subst (λ (hops : List Hop).
      (k : ℕ)
      × (h : Hop)
      × (get_elem? hops k ≡ some h)
      × (h.to ≡ suc at.node)
      × (h.words ≡ s.hop.words))
      (sym s.are) (0, s.hop, refl, w.to, refl)

  pub on_entry : 0 < at.key → IsOnEntry holds map new at.node at.key
  on_entry keyed =
      let w = went_on keyed in
      let k = w.key in
      let inside =
      s.may.on (let e = w.bucket in let low = s.goes.inside in omega (arith, e, low)) in
      record {
        walking = s.may.walking;
        inside = inside.inside;
        words = s.hop.words;
        held = step_held keyed;
        whole = s.whole keyed;
        keyed = keyed;
        is = k;
      }

-- a section that goes over chains, and came to no entry yet
pub record IsPassing (buckets seed : ℕ) (was : Known) (start : Cursor) (now : Known)
    (at : Cursor) : Type 0 where
  pub over : List Hop
  pub are : hops_in now ≡ over ++ hops_in was
  pub nowhere : LedNowhere over
  pub goes : GoOn buckets seed start over at

pub begins : (n m : ℕ) (was : Known) (start : Cursor) → IsPassing n m was start was start
begins n m was start = record { over = []; are = refl; nowhere = tt; goes = refl }

module _ (holds : List ℕ → Type 0) (map : Object Plan) (old new : Seated Planned)
    (mid at : Cursor) (s : HasStepped holds map old mid new at) (was : Known)
    (start : Cursor) (p : IsPassing map.plan.roots map.plan.seed was start old.view.client.known
    mid) where
  pub passes_on : at.key ≡ 0 → IsPassing map.plan.roots map.plan.seed was start
      new.view.client.known at
  passes_on none = record {
    over = s.hop ∷ p.over;
    are = s.are ∙ ap (λ (hops : List Hop). s.hop ∷ hops) p.are;
    nowhere = ((went_over holds map old new mid at s none).0, p.nowhere);
    goes = (mid, p.goes, s.goes, s.led);
  }

  pub comes_to : {E : Type 0} (decode : List ℕ → E) (entry : E) (keyed : 0 < at.key)
      → entry ≡ decode s.hop.words
      → IsNextEntry holds decode map.plan.roots map.plan.seed was start new.view.client.known at
      entry
  comes_to decode entry keyed told =
      let w = went_on holds map old new mid at s keyed in
      let k = w.key in record {
        over = p.over;
        last = s.hop;
        are = s.are ∙ ap (λ (hops : List Hop). s.hop ∷ hops) p.are;
        nowhere = p.nowhere;
        goes = (mid, p.goes, s.goes, s.led);
        led = w.to;
        key = k;
        whole = (s.whole keyed).entry (omega (arith, k, keyed));
        told = told;
      }

pub is_at_end : (n m : ℕ) (was now : Known) (start at : Cursor)
    → IsPassing n m was start now at → at.bucket ≡ n → IsAtEnd n m was start now at
is_at_end n m was now start at p ended =
    record { over = p.over; are = p.are; nowhere = p.nowhere; goes = p.goes; ended = ended }

-- fewer keys are left after a step
pub left_over : (buckets : ℕ) (at : Cursor) → at.bucket < buckets → at.key < 2 ^ 64
    → left_from buckets (at_root (at.bucket + 1)) ≤ left_from buckets at
left_over buckets at low small = omega (arith, low, small)

pub left_on : (buckets : ℕ) (at to : Cursor)
    → at.bucket < buckets → at.key < 2 ^ 64 → to.bucket ≡ at.bucket → at.key < to.key
    → left_from buckets to < left_from buckets at
left_on buckets at to low small same up = omega (arith, low, small, same, up)

pub at_most : (a b c : ℕ) → a ≤ b → b ≤ c → a ≤ c
at_most a b c low high = omega (arith, low, high)

below : (a b c : ℕ) → a < b → b ≤ c → a < c
below a b c low high = omega (arith, low, high)

module _ (holds : List ℕ → Type 0) (map : Object Plan) (begun old new : Seated Planned)
    (start mid at : Cursor) (s : HasStepped holds map old mid new at)
    (same : old ≡ after_word_step begun old.view.client) (may : MayGoOn map old mid)
    (p : IsPassing map.plan.roots map.plan.seed begun.view.client.known start old.view.client.known
    mid)
    (left : left_from map.plan.roots mid ≤ left_from map.plan.roots start) where
  abbrev all : ℕ
  all = map.plan.roots

  pub same_on : new ≡ after_word_step begun new.view.client
  same_on = s.same ∙ ap (λ (x : Seated Planned). after_word_step x new.view.client) same

  pub left_less : at.key ≡ 0 → left_from all at ≤ left_from all start
  left_less none =
      let over = went_over holds map old new mid at s none in
      subst (λ (c : Cursor). left_from all c ≤ left_from all start) (sym over.1)
      (at_most (left_from all (at_root (mid.bucket + 1))) (left_from all mid)
      (left_from all start) (left_over all mid s.goes.inside may.small) left)

  pub listed_entry : {E : Type 0} (decode : List ℕ → E) (valid : E → Type 0) (key_of : E → ℕ)
      (entry : E)
      → ((words : List ℕ) → holds words → key_of (decode words) ≡ key_in words)
      → 0 < at.key
      → entry ≡ decode s.hop.words
      → valid entry
      → HasListed holds decode valid key_of map begun start new at (Some entry)
  listed_entry decode valid key_of entry tells keyed told sound =
      let w = went_on holds map old new mid at s keyed in
      let k = w.key in
      let whole = (s.whole keyed).entry (omega (arith, k, keyed)) in
      record {
        same = same_on;
        may = s.may;
        went = comes_to holds map old new mid at s begun.view.client.known start
            p
            decode entry keyed told;
        keyed = ap key_of told ∙ (tells s.hop.words whole ∙ k);
        sound = sound;
        nearer = below (left_from all at) (left_from all mid) (left_from all start)
            (left_on all mid at s.goes.inside may.small w.bucket w.up) left;
      }
