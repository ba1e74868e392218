-- The places of an engine, and the seats in them.
use Rattle.std.proofs.Common.{◌≡◌, ℕ, ◌<◌, ◌≤◌, List, length, map, None, Some}
use Rattle.std.proofs.Common.{Err, Ok, OnOk, Result, refl, sym, ap, ◌∙◌, slice_set, subst, arith}
use Rattle.std.specs.List.{All, range_with_len}
use Rattle.std.proofs.lemmas.List.FromFn.{get_or-map-range_with_len, length-map-range_with_len}
use Rattle.std.proofs.lemmas.List.{length-map, map-set, set_past}
use Rattle.std.proofs.lemmas.Simd.{map-map}
use Rattle.rcu_c.specs.Places.{IsPlaceOf, place_at_first, seat_in}
use Rattle.rcu_c.specs.Seats.{Kept, Seat, Shared, Words, seat_at_first}
use Rattle.rcu_c.specs.declared.places.Place.{Place}
use Rattle.rcu_c.specs.declared.places.Place.TheVariants.{Dealt}

-- the places of an engine as it is opened are of its words
pub first_places : (w : Words) (places : List Place)
    → places ≡ map (place_at_first w) (range_with_len 0 w.cpus) → All (IsPlaceOf w) places
first_places w places are = subst (All (IsPlaceOf w)) (sym are)
    (λ k d low.
    let inside : k < w.cpus =
    subst (λ (m : ℕ). k < m) (length-map-range_with_len (place_at_first w) 0 w.cpus) low in
    subst (IsPlaceOf w)
    (sym (get_or-map-range_with_len (place_at_first w) 0 w.cpus k k d inside (omega arith)))
    (record {
      cpu = refl;
      watcher = refl;
      inside = inside;
      base = refl;
      planned = refl;
      reads = tt;
      outside = refl;
    }))

-- and in each is the seat of its processor
pub first_seats : (s : Shared) (places : List Place)
    → places ≡ map (place_at_first s.words) (range_with_len 0 s.words.cpus)
    → map (seat_in s) places
    ≡ map (λ cpu.
    Some (seat_at_first s.identity s.words.table s.requests s.words.plan s.words.cpus cpu))
    (range_with_len 0 s.words.cpus)
first_seats s places are =
    ap (map (seat_in s)) are
    ∙ map-map (seat_in s) (place_at_first s.words) (range_with_len 0 s.words.cpus)

-- if an accepted call leaves a place without its seat, the seats are without that one
pub now_dealt : {A E : Type 0} (s : Shared) (places : List Place) (cpu : ℕ) (left : Place)
    (was : Kept) (result : Result A E)
    → record { shared = s; seats = map (seat_in s) places } ≡ was
    → OnOk result (left ≡ Dealt)
    → OnOk result (map (seat_in s) (slice_set places cpu left) ≡ slice_set was.seats cpu None)
now_dealt s places cpu left was (Ok value) is dealt =
    ap (λ x. map (seat_in s) (slice_set places cpu x)) dealt
    ∙ map-set (seat_in s) places cpu Dealt
    ∙ ap (λ (k : Kept). slice_set k.seats cpu None) is
now_dealt s places cpu left was (Err refusal) is dealt = dealt

module _ (s : Shared) (places : List Place) (cpu : ℕ) (seat : Seat) (was : Kept)
    (is : record { shared = s; seats = map (seat_in s) places } ≡ was) where
  -- a place that keeps a seat has it among the seats
  pub now_kept : (kept : Place) → seat_in s kept ≡ Some seat
      → map (seat_in s) (slice_set places cpu kept) ≡ slice_set was.seats cpu (Some seat)
  now_kept kept there =
      map-set (seat_in s) places cpu kept
      ∙ ap (λ x. slice_set (map (seat_in s) places) cpu x) there
      ∙ ap (λ (k : Kept). slice_set k.seats cpu (Some seat)) is

  -- if there is no place, the seats stay
  pub none_kept : length places ≤ cpu
      → map (seat_in s) places ≡ slice_set was.seats cpu (Some seat)
  none_kept past =
      let beyond : length (map (seat_in s) places) ≤ cpu =
      subst (λ (n : ℕ). n ≤ cpu) (sym (length-map places (seat_in s))) past in
      sym (set_past (map (seat_in s) places) cpu (Some seat) beyond)
      ∙ ap (λ (k : Kept). slice_set k.seats cpu (Some seat)) is
