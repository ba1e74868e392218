-- A section goes on from the root of a key's bucket to the next entry behind the key.
use Rattle.std.proofs.Common.{◌≡◌, ◌≢◌, ◌⊎◌, ℕ, ◌+◌, ◌<◌, ◌≤◌, ◌^◌, List, [], ◌∷◌, ◌++◌}
use Rattle.std.proofs.Common.{⊎_elim, refl, sym, ap, ◌∙◌, subst, inl, inr, arith}
use mathlib.Core.Logic.{dite}
use native.Mathlib.Decide.{ℕ_discrete}
use Rattle.rcu_live.specs.Board.{Object}
use Rattle.rcu_live.specs.CpuSeat.{Seated}
use Rattle.rcu_graph.specs.Nodes.{hops_in}
use Rattle.rcu_graph.specs.Search.{key_after}
use Rattle.rcu_graph.specs.declared.known.Hop.{Hop}
use Rattle.rcu_graph.specs.declared.known.Known.{Known}
use Rattle.rcu_graph.specs.declared.known.Planned.{Planned}
use Rattle.rcu_graph.specs.declared.plan.Plan.{Plan}
use Rattle.rcu_map.specs.After.{IsBehind, IsEntryAfter, IsNoneAfter, IsUpTo, LedUpTo}
use Rattle.rcu_map.specs.Cursors.{HasStepped}
use Rattle.rcu_map.specs.Keys.{bucket_of}
use Rattle.rcu_map.specs.Listing.{GoOn, at_root, left_from}
use Rattle.rcu_map.specs.declared.cursor.Cursor.{Cursor}
use Rattle.rcu_map.proofs.Stepping.{at_most, left_on, went_on, went_over}

-- a section that goes on from the root of a key's bucket, and did not yet come to an entry behind
-- the key
pub record IsNearing (buckets seed key : ℕ) (was now : Known) (at : Cursor) : Type 0 where
  pub over : List Hop
  pub are : hops_in now ≡ over ++ hops_in was
  pub up_to : LedUpTo buckets seed key over
  pub goes : GoOn buckets seed (at_root (bucket_of buckets seed key)) over at
  pub on : bucket_of buckets seed key ≤ at.bucket

pub begins : (buckets seed key : ℕ) (was : Known) (at : Cursor)
    → at ≡ at_root (bucket_of buckets seed key) → IsNearing buckets seed key was was at
begins buckets seed key was at is = record {
  over = [];
  are = refl;
  up_to = tt;
  goes = is;
  on = subst (λ (c : Cursor). bucket_of buckets seed key ≤ c.bucket) (sym is) (omega arith);
}

pub is_none : (buckets seed key : ℕ) (was now : Known) (at : Cursor)
    → IsNearing buckets seed key was now at → at.bucket ≡ buckets
    → IsNoneAfter buckets seed key was now
is_none buckets seed key was now at n ended = record {
  over = n.over;
  at = at;
  are = n.are;
  up_to = n.up_to;
  goes = n.goes;
  ended = ended;
}

-- the entries of the key's bucket are passed over up to the key, those of later ones not at all
abbrev pub IsLimit : (bucket key here limit : ℕ) → Type 0
IsLimit bucket key here limit =
    ((here ≡ bucket) × (limit ≡ key)) ⊎ ((here ≢ bucket) × (limit ≡ 0))

-- the limit, as the code reckons it
pub limit_of : (bucket start key here limit : ℕ) → bucket ≡ start
    → ((here ≡ bucket) × (limit ≡ key)) ⊎ ((here ≢ bucket) × (limit ≡ 0))
    → IsLimit start key here limit
limit_of bucket start key here limit is l =
    subst (λ (b : ℕ). IsLimit b key here limit) is l

-- less is left after a step
less_over : (buckets : ℕ) (at : Cursor) → at.bucket < buckets → at.key < 2 ^ 64
    → left_from buckets (at_root (at.bucket + 1)) < left_from buckets at
less_over buckets at low small = omega (arith, low, small)

module _ (holds : List ℕ → Type 0) (map : Object Plan) (old new : Seated Planned)
    (mid at : Cursor) (s : HasStepped holds map old mid new at) where
  abbrev buckets : ℕ
  buckets = map.plan.roots

  abbrev seed : ℕ
  seed = map.plan.seed

  pub less_left : mid.key < 2 ^ 64 → left_from buckets at < left_from buckets mid
  less_left small = dite (ℕ_discrete at.key 0)
      (λ (none : at.key ≡ 0).
      subst (λ (c : Cursor). left_from buckets c < left_from buckets mid)
      (sym (went_over holds map old new mid at s none).1)
      (less_over buckets mid s.goes.inside small))
      (λ (ne : at.key ≡ 0 → ⊥).
      let w = went_on holds map old new mid at s (omega (arith, ne)) in
      left_on buckets mid at s.goes.inside small w.bucket w.up)

  -- the bucket of an entry is the one in which the section then is
  bucket_is : 0 < at.key → bucket_of buckets seed at.key ≡ at.bucket
  bucket_is keyed =
      let w = went_on holds map old new mid at s keyed in
      sym (ap (bucket_of buckets seed) w.key) ∙ (s.goes.same at.node w.to ∙ sym w.bucket)

  no_nearer : mid.bucket ≤ at.bucket
  no_nearer = dite (ℕ_discrete at.key 0)
      (λ (none : at.key ≡ 0).
      let next : at.bucket ≡ mid.bucket + 1 =
      ap (λ (c : Cursor). c.bucket) (went_over holds map old new mid at s none).1 in
      omega (arith, next))
      (λ (ne : at.key ≡ 0 → ⊥).
      let w = went_on holds map old new mid at s (omega (arith, ne)) in
      let same = w.bucket in omega (arith, same))

  module _ (key limit : ℕ) (was : Known)
      (n : IsNearing buckets seed key was old.view.client.known mid)
      (l : IsLimit (bucket_of buckets seed key) key at.bucket limit) where
    abbrev start : ℕ
    start = bucket_of buckets seed key

    on_further : start ≤ at.bucket
    on_further = at_most start mid.bucket at.bucket n.on no_nearer

    goes_on : ((s.hop.to ≡ 0) ⊎ IsUpTo buckets seed key (key_after s.hop))
        → IsNearing buckets seed key was new.view.client.known at
    goes_on led = record {
      over = s.hop ∷ n.over;
      are = s.are ∙ ap (λ (hops : List Hop). s.hop ∷ hops) n.are;
      up_to = (led, n.up_to);
      goes = (mid, n.goes, s.goes, s.led);
      on = on_further;
    }

    -- an entry up to the limit is passed over
    up_to_key : 0 < at.key → at.bucket ≡ start → at.key ≤ key → IsUpTo buckets seed key at.key
    up_to_key keyed here low = dite (ℕ_discrete at.key key)
        (λ (e : at.key ≡ key). inl e)
        (λ (ne : at.key ≡ key → ⊥).
        let less : at.key < key = omega (arith, low, ne) in
        inr (inr (sym (bucket_is keyed ∙ here), less)))

    passed : 0 < at.key → at.key ≤ limit → IsUpTo buckets seed key at.key
    passed keyed low = ⊎_elim
        (λ (own : (at.bucket ≡ start) × (limit ≡ key)).
        let is = own.1 in up_to_key keyed own.0 (omega (arith, low, is)))
        (λ (later : (at.bucket ≢ start) × (limit ≡ 0)).
        let is = later.1 in absurd (omega (arith, keyed, low, is)))
        l

    pub passes : at.key ≤ limit → IsNearing buckets seed key was new.view.client.known at
    passes low = goes_on (dite (ℕ_discrete at.key 0)
        (λ (none : at.key ≡ 0). inl (went_over holds map old new mid at s none).0)
        (λ (ne : at.key ≡ 0 → ⊥).
        let keyed : 0 < at.key = omega (arith, ne) in
        inr (subst (IsUpTo buckets seed key)
        (sym (went_on holds map old new mid at s keyed).key)
        (passed keyed low))))

    -- one past it is behind the key
    pub is_keyed : limit < at.key → 0 < at.key
    is_keyed up = omega (arith, up)

    pub is_behind : limit < at.key → IsBehind buckets seed key at.key
    is_behind up = ⊎_elim
        (λ (own : (at.bucket ≡ start) × (limit ≡ key)).
        let is = own.1 in
        inr (bucket_is (is_keyed up) ∙ own.0, omega (arith, up, is)))
        (λ (later : (at.bucket ≢ start) × (limit ≡ 0)).
        inl (further start at.bucket (bucket_of buckets seed at.key) on_further later.0
        (bucket_is (is_keyed up))))
        l
      where
        further : (a b c : ℕ) → a ≤ b → b ≢ a → c ≡ b → a < c
        further a b c low ne is = omega (arith, low, ne, is)

    pub is_entry : {E : Type 0} (decode : List ℕ → E) (entry : E) → limit < at.key
        → entry ≡ decode s.hop.words
        → IsEntryAfter holds decode buckets seed key was new.view.client.known entry
    is_entry decode entry up told =
        let keyed = is_keyed up in
        let w = went_on holds map old new mid at s keyed in
        let k = w.key in record {
          over = n.over;
          last = s.hop;
          at = at;
          are = s.are ∙ ap (λ (hops : List Hop). s.hop ∷ hops) n.are;
          up_to = n.up_to;
          goes = (mid, n.goes, s.goes, s.led);
          led = w.to;
          behind = subst (IsBehind buckets seed key) (sym k) (is_behind up);
          whole = (s.whole keyed).entry (omega (arith, k, keyed));
          told = told;
        }
