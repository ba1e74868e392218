-- If a client is one of several, its rule is a part of the rule of the whole; and a pair of clients
-- is a client.
use Rattle.std.specs.Prelude.{◌≡◌, ℕ, zero, suc, ◌+◌, ◌<◌, List, [], ◌∷◌, ◌++◌, Some, None, length}
use Rattle.std.specs.Prelude.{map, drop, slice_index, slice_set, take}
use Rattle.std.proofs.Common.{refl, sym, ap, ◌∙◌, subst, arith, length-append, ⊎_elim}
use Rattle.std.proofs.lemmas.List.{append_assoc, drop-set-add, drop-set-lt, get_or-drop}
use Rattle.std.proofs.lemmas.List.{get_or-take}
use Rattle.std.proofs.lemmas.List.{length-drop, length-take, map-append, map-set, take-set-le}
use lib.Seq.{take-set-lt}
use mathlib.Core.Option.{some, some-injective, some-ne-none}
use lib.ListN.{get_elem?}
use Rattle.atomic_table.proofs.Lists.{at_map, at_set, at_snoc, set_again}
use Rattle.rcu_live.specs.Client.{ClientView, HasAdded, IsStable, Views}
use Rattle.rcu_live.specs.Several.{HoldsBoth, IsLens, IsPart, Lens, in_first, in_second, of_both}
use Rattle.rcu_live.specs.Several.{shown_first, shown_part, shown_second, whole}
use Rattle.rcu_live.specs.declared.both_known.BothKnown.{BothKnown}

none_before : (p : ℕ) → p ≡ 0 + p
none_before p = omega arith

none_behind : (p : ℕ) → p ≡ p + 0
none_behind p = omega arith

module _ {A B : Type 0} (f : A → B) where
  -- an element that is shown as before
  shown_same : (xs : List A) (id : ℕ) (was now : A) → get_elem? xs id ≡ some was → f now ≡ f was
      → map f (slice_set xs id now) ≡ map f xs
  shown_same xs id was now at same =
      map-set f xs id now ∙ ap (λ (y : B). slice_set (map f xs) id y) same
      ∙ set_again (map f xs) id (f was) (at_map f xs id was at)

  -- a list with an element changed, and one more
  shown_more : (xs : List A) (id : ℕ) (now more : A)
      → map f (slice_set xs id now ++ more ∷ []) ≡ slice_set (map f xs) id (f now) ++ f more ∷ []
  shown_more xs id now more =
      map-append f (slice_set xs id now) (more ∷ [])
      ∙ ap (λ (ys : List B). ys ++ f more ∷ []) (map-set f xs id now)

  shown_twice : {D : Type 0} (g : B → D) (xs : List A) → map (λ (x : A). g (f x)) xs ≡ map g
      (map f xs)
  shown_twice g [] = refl
  shown_twice {D} g (x ∷ xs) = ap (λ (ys : List D). g (f x) ∷ ys) (shown_twice g xs)

module _ {A : Type 0} (P : A → Type 0) where
  each_set : (xs : List A) (id : ℕ) (now : A)
      → ((j : ℕ) (x : A) → get_elem? xs j ≡ some x → P x) → P now
      → (j : ℕ) (x : A) → get_elem? (slice_set xs id now) j ≡ some x → P x
  each_set xs id now each mine j x at =
      ⊎_elim (λ t. subst P t.1 mine) (λ t. each j x t.1) (at_set xs id j now x at)

  each_more : (xs : List A) (more : A)
      → ((j : ℕ) (x : A) → get_elem? xs j ≡ some x → P x) → P more
      → (j : ℕ) (x : A) → get_elem? (xs ++ more ∷ []) j ≡ some x → P x
  each_more xs more each mine j x at =
      ⊎_elim (λ t. each j x t) (λ t. subst P t mine) (at_snoc xs more x j at)

shown_whole : {C : Type 0} (xs : Views C) → map (shown_part whole) xs ≡ xs
shown_whole [] = refl
shown_whole {C} (x ∷ xs) = ap (λ (ys : Views C). x ∷ ys) (shown_whole xs)

-- the words before a split, and those behind it
module _ (words : List ℕ) (split p : ℕ) where
  low_in_front : p < length (take split words) → p < split
  low_in_front low = let l = length-take split words in omega (arith, low, l)

  low_in_all : p < length (take split words) → p < length words
  low_in_all low = let l = length-take split words in omega (arith, low, l)

  low_behind : p < length (drop split words) → split + p < length words
  low_behind low = let l = length-drop split words in omega (arith, low, l)

module _ {C : Type 0} where
  pub whole_is_lens : (idle closed : C → C) → IsLens whole idle closed idle closed
  whole_is_lens idle closed = record {
    got = λ d c. refl;
    again = λ d c e. refl;
    as_it_is = λ d. refl;
    idles = λ d. refl;
    closes = λ d. refl;
    behind = λ base d. none_behind base;
    stays = λ base d c. refl;
    stays_idle = λ base d. refl;
    stays_closed = λ base d. refl;
  }

  -- a client that is alone is the whole
  pub whole_is_part : (rule : List ℕ → Views C → Type 0) (idle closed : C → C)
      → IsStable rule idle closed → IsPart whole rule rule (λ words. words) 0 idle idle
  whole_is_part rule idle closed stable = record {
    holds = λ words xs h. subst (rule words) (sym (shown_whole xs)) h;
    inside = λ words xs p h low. omega (arith, low);
    placed = λ words xs p h low. ap (slice_index words) (none_before p);
    knows = λ words xs id cpu section d c h at kept.
        subst (λ (ys : Views C). rule words (slice_set ys id (cpu, section, c))) (shown_whole xs)
        kept;
    stores = λ words xs id p x cpu section d c h at low kept.
        subst (λ (y : ℕ × Views C).
        rule (slice_set words y.0 x) (slice_set y.1 id (cpu, section, c)))
        (λ i. (none_before p i, shown_whole xs i)) kept;
    hands = λ words xs id d h at. stable.hands words xs id d h at;
    told = λ words xs id x h at. refl;
  }

module _ {C D E : Type 0} (inner : Lens D C) (idle closed : C → C) (idle_inner closed_inner : D → D)
    (is : IsLens inner idle closed idle_inner closed_inner) (idle_other closed_other : E → E) where
  pub in_first_is_lens : IsLens (in_first inner) idle closed (of_both idle_inner idle_other)
      (of_both closed_inner closed_other)
  in_first_is_lens = record {
    got = λ d c. is.got d.first c;
    again = λ d c e. ap (with_first d) (is.again d.first c e);
    as_it_is = λ d. ap (with_first d) (is.as_it_is d.first);
    idles = λ d. is.idles d.first;
    closes = λ d. is.closes d.first;
    behind = λ base d. is.behind base d.first;
    stays = λ base d c. is.stays base d.first c;
    stays_idle = λ base d. is.stays_idle base d.first;
    stays_closed = λ base d. is.stays_closed base d.first;
  }
    where
      with_first : BothKnown D E → D → BothKnown D E
      with_first d first = record d { first = first }

  pub in_second_is_lens : IsLens (in_second inner) idle closed (of_both idle_other idle_inner)
      (of_both closed_other closed_inner)
  in_second_is_lens = record {
    got = λ d c. is.got d.second c;
    again = λ d c e. ap (with_second d) (is.again d.second c e);
    as_it_is = λ d. ap (with_second d) (is.as_it_is d.second);
    idles = λ d. is.idles d.second;
    closes = λ d. is.closes d.second;
    behind = λ base d.
        let far = is.behind (base + d.split) d.second in
        let near = is.behind (0 + d.split) d.second in omega (arith, far, near);
    stays = λ base d c. is.stays (base + d.split) d.second c;
    stays_idle = λ base d. is.stays_idle (base + d.split) d.second;
    stays_closed = λ base d. is.stays_closed (base + d.split) d.second;
  }
    where
      with_second : BothKnown E D → D → BothKnown E D
      with_second d second = record d { second = second }

-- the rule of a part of the first of two
module _ {C D E : Type 0} (inner : Lens D C) (first : List ℕ → Views D → Type 0)
    (second : List ℕ → Views E → Type 0) (split : ℕ) (rule : List ℕ → Views C → Type 0)
    (own : List ℕ → List ℕ) (base : ℕ) (idle : C → C) (idle_first : D → D)
    (idle_second closed_second : E → E) where
  pub in_first_is_part : IsPart inner first rule own base idle idle_first
      → IsStable second idle_second closed_second
      → IsPart (in_first inner) (HoldsBoth first second split) rule (λ words. own
      (take split words))
      base idle (of_both idle_first idle_second)
  in_first_is_part is other = record {
    holds = λ words xs h.
        subst (rule (own (take split words))) (sym (shown_twice shown_first (shown_part inner) xs))
        (is.holds (take split words) (map shown_first xs) h.one);
    inside = λ words xs p h low.
        low_in_all words split (base + p)
        (is.inside (take split words) (map shown_first xs) p h.one low);
    placed = λ words xs p h low.
        is.placed (take split words) (map shown_first xs) p h.one low
        ∙ get_or-take split words (base + p) 0
        (low_in_front words split (base + p)
        (is.inside (take split words) (map shown_first xs) p h.one low));
    knows = λ words xs id cpu section d c h at kept.
        let x : ClientView (BothKnown D E) = (
          cpu,
          section,
          record d {
            first = inner.set d.first c;
          },
        )
        in record {
          one = subst (first (take split words)) (sym (map-set shown_first xs id x))
              (is.knows (take split words) (map shown_first xs) id cpu section d.first c h.one
              (at_map shown_first xs id (cpu, section, d) at)
              (subst (λ (ys : Views C).
              rule (own (take split words)) (slice_set ys id (cpu, section, c)))
              (shown_twice shown_first (shown_part inner) xs) kept));
          other = subst (second (drop split words))
              (sym (shown_same shown_second xs id (cpu, section, d) x at refl)) h.other;
          told = each_set (λ (y : ClientView (BothKnown D E)). y.2.split ≡ split) xs id x h.told
              (h.told id (cpu, section, d) at);
        };
    stores = λ words xs id p x cpu section d c h at low kept.
        let y : ClientView (BothKnown D E) = (
          cpu,
          section,
          record d {
            first = inner.set d.first c;
          },
        )
        in
        let front = is.inside (take split words) (map shown_first xs) p h.one low in
        let under = low_in_front words split (base + p) front in record {
          one = subst (λ (z : List ℕ × Views D). first z.0 z.1)
              (λ i. (
                sym (take-set-lt split words (base + p) x under) i,
                sym (map-set shown_first xs id y) i,
              ))
              (is.stores (take split words) (map shown_first xs) id p x cpu section d.first c h.one
              (at_map shown_first xs id (cpu, section, d) at) low
              (subst (λ (ys : Views C).
              rule (slice_set (own (take split words)) p x) (slice_set ys id (cpu, section, c)))
              (shown_twice shown_first (shown_part inner) xs) kept));
          other = subst (λ (z : List ℕ × Views E). second z.0 z.1)
              (λ i. (
                sym (drop-set-lt split words (base + p) x under) i,
                sym (shown_same shown_second xs id (cpu, section, d) y at refl) i,
              ))
              h.other;
          told = each_set (λ (z : ClientView (BothKnown D E)). z.2.split ≡ split) xs id y h.told
              (h.told id (cpu, section, d) at);
        };
    hands = λ words xs id d h at.
        let left : ClientView (BothKnown D E) =
        (None, None, record d { first = inner.set d.first (idle (inner.get d.first)) }) in
        let new : ClientView (BothKnown D E) = (
          None,
          None,
          record {
            first = inner.set (idle_first d.first) (inner.get d.first);
            second = idle_second d.second;
            split = d.split;
          },
        )
        in
        let told = h.told id (None, None, d) at in record {
          one = subst (first (take split words)) (sym (shown_more shown_first xs id left new))
              (is.hands (take split words) (map shown_first xs) id d.first h.one
              (at_map shown_first xs id (None, None, d) at));
          other = subst (second (drop split words))
              (sym (map-append shown_second (slice_set xs id left) (new ∷ [])
              ∙ ap (λ (ys : Views E). ys ++ shown_second new ∷ [])
              (shown_same shown_second xs id (None, None, d) left at refl)))
              (other.deals (drop split words) (map shown_second xs) id None None d.second None
              h.other
              (at_map shown_second xs id (None, None, d) at));
          told = each_more (λ (z : ClientView (BothKnown D E)). z.2.split ≡ split)
              (slice_set xs id left) new
              (each_set (λ (z : ClientView (BothKnown D E)). z.2.split ≡ split) xs id left h.told
              told)
              told;
        };
    told = λ words xs id x h at.
        is.told (take split words) (map shown_first xs) id (shown_first x) h.one
        (at_map shown_first xs id x at);
  }

-- the rule of a part of the second of two
module _ {C D E : Type 0} (inner : Lens D C) (first : List ℕ → Views E → Type 0)
    (second : List ℕ → Views D → Type 0) (split : ℕ) (rule : List ℕ → Views C → Type 0)
    (own : List ℕ → List ℕ) (base : ℕ) (idle : C → C) (idle_second : D → D)
    (idle_first closed_first : E → E) where
  pub in_second_is_part : {closed : C → C} {closed_second : D → D}
      → IsLens inner idle closed idle_second closed_second
      → IsPart inner second rule own base idle idle_second
      → IsStable first idle_first closed_first
      → IsPart (in_second inner) (HoldsBoth first second split) rule (λ words. own
      (drop split words))
      (split + base) idle (of_both idle_first idle_second)
  in_second_is_part {closed} {closed_second} lens is other = record {
    holds = λ words xs h.
        subst (rule (own (drop split words))) (sym (shown_twice shown_second (shown_part inner) xs))
        (is.holds (drop split words) (map shown_second xs) h.other);
    inside = λ words xs p h low.
        let far = low_behind words split (base + p)
        (is.inside (drop split words) (map shown_second xs) p h.other low) in omega (arith, far);
    placed = λ words xs p h low.
        is.placed (drop split words) (map shown_second xs) p h.other low
        ∙ get_or-drop split words (base + p) 0
        ∙ ap (slice_index words) (behind base p);
    knows = λ words xs id cpu section d c h at kept.
        let x : ClientView (BothKnown E D) =
        (cpu, section, record d { second = inner.set d.second c }) in record {
          one = subst (first (take split words))
              (sym (shown_same shown_first xs id (cpu, section, d) x at refl)) h.one;
          other = subst (second (drop split words)) (sym (map-set shown_second xs id x))
              (is.knows (drop split words) (map shown_second xs) id cpu section d.second c h.other
              (at_map shown_second xs id (cpu, section, d) at)
              (subst (λ (ys : Views C).
              rule (own (drop split words)) (slice_set ys id (cpu, section, c)))
              (shown_twice shown_second (shown_part inner) xs) kept));
          told = each_set (λ (y : ClientView (BothKnown E D)). y.2.split ≡ split) xs id x h.told
              (h.told id (cpu, section, d) at);
        };
    stores = λ words xs id p x cpu section d c h at low kept.
        let y : ClientView (BothKnown E D) =
        (cpu, section, record d { second = inner.set d.second c }) in
        subst (λ (place : ℕ). HoldsBoth first second split (slice_set words place x)
        (slice_set xs id y)) (behind base p)
        record {
          one = subst (λ (z : List ℕ × Views E). first z.0 z.1)
              (λ i. (
                sym (take-set-le split words (split + (base + p)) x (omega arith)) i,
                sym (shown_same shown_first xs id (cpu, section, d) y at refl) i,
              ))
              h.one;
          other = subst (λ (z : List ℕ × Views D). second z.0 z.1)
              (λ i. (
                sym (drop-set-add split words (base + p) x) i,
                sym (map-set shown_second xs id y) i,
              ))
              (is.stores (drop split words) (map shown_second xs) id p x cpu section d.second c
              h.other
              (at_map shown_second xs id (cpu, section, d) at) low
              (subst (λ (ys : Views C).
              rule (slice_set (own (drop split words)) p x) (slice_set ys id (cpu, section, c)))
              (shown_twice shown_second (shown_part inner) xs) kept));
          told = each_set (λ (z : ClientView (BothKnown E D)). z.2.split ≡ split) xs id y h.told
              (h.told id (cpu, section, d) at);
        };
    hands = λ words xs id d h at.
        let left : ClientView (BothKnown E D) =
        (None, None, record d { second = inner.set d.second (idle (inner.get d.second)) }) in
        let new : ClientView (BothKnown E D) = (
          None,
          None,
          record {
            first = idle_first d.first;
            second = inner.set (idle_second d.second) (inner.get d.second);
            split = d.split;
          },
        )
        in
        let told = h.told id (None, None, d) at in record {
          one = subst (first (take split words))
              (sym (map-append shown_first (slice_set xs id left) (new ∷ [])
              ∙ ap (λ (ys : Views E). ys ++ shown_first new ∷ [])
              (shown_same shown_first xs id (None, None, d) left at refl)))
              (other.deals (take split words) (map shown_first xs) id None None d.first None h.one
              (at_map shown_first xs id (None, None, d) at));
          other = subst (second (drop split words)) (sym (shown_more shown_second xs id left new))
              (is.hands (drop split words) (map shown_second xs) id d.second h.other
              (at_map shown_second xs id (None, None, d) at));
          told = each_more (λ (z : ClientView (BothKnown E D)). z.2.split ≡ split)
              (slice_set xs id left) new
              (each_set (λ (z : ClientView (BothKnown E D)). z.2.split ≡ split) xs id left h.told
              told)
              told;
        };
    told = λ words xs id x h at.
        let far = lens.behind (0 + x.2.split) x.2.second in
        let mine = h.told id x at in
        let inside = is.told (drop split words) (map shown_second xs) id (shown_second x) h.other
        (at_map shown_second xs id x at) in omega (arith, far, mine, inside);
  }
    where
      behind : (p q : ℕ) → split + (p + q) ≡ split + p + q
      behind p q = omega arith

-- the first elements of a list of this length and another behind it, and the rest
front_of : (xs ys : List ℕ) (n : ℕ) → length xs ≡ n → take n (xs ++ ys) ≡ xs
front_of [] ys zero e = refl
front_of [] ys (suc n) e = absurd (omega (arith, e))
front_of (x ∷ xs) ys zero e = absurd (omega (arith, e))
front_of (x ∷ xs) ys (suc n) e = ap (λ (l : List ℕ). x ∷ l) (front_of xs ys n (omega (arith, e)))

behind_of : (xs ys : List ℕ) (n : ℕ) → length xs ≡ n → drop n (xs ++ ys) ≡ ys
behind_of [] ys zero e = refl
behind_of [] ys (suc n) e = absurd (omega (arith, e))
behind_of (x ∷ xs) ys zero e = absurd (omega (arith, e))
behind_of (x ∷ xs) ys (suc n) e = behind_of xs ys n (omega (arith, e))

-- a pair of clients is a client
module _ {C D : Type 0} (first : List ℕ → Views C → Type 0) (second : List ℕ → Views D → Type 0)
    (split : ℕ) (idle_first closed_first : C → C) (idle_second closed_second : D → D) where
  abbrev IsTold : ClientView (BothKnown C D) → Type 0
  IsTold x = x.2.split ≡ split

  pub both_are_stable : IsStable first idle_first closed_first
      → IsStable second idle_second closed_second
      → IsStable (HoldsBoth first second split) (of_both idle_first idle_second)
      (of_both closed_first closed_second)
  both_are_stable one other = record {
    opens = λ words xs id number cpu c h at.
        let x : ClientView (BothKnown C D) = (cpu, Some number, c) in record {
          one = subst (first (take split words)) (sym (map-set shown_first xs id x))
              (one.opens (take split words) (map shown_first xs) id number cpu c.first h.one
              (at_map shown_first xs id (cpu, None, c) at));
          other = subst (second (drop split words)) (sym (map-set shown_second xs id x))
              (other.opens (drop split words) (map shown_second xs) id number cpu c.second h.other
              (at_map shown_second xs id (cpu, None, c) at));
          told = each_set IsTold xs id x h.told (h.told id (cpu, None, c) at);
        };
    closes = λ words xs id cpu section c h at.
        let x : ClientView (BothKnown C D) = (cpu, None, of_both closed_first closed_second c) in
        record {
          one = subst (first (take split words)) (sym (map-set shown_first xs id x))
              (one.closes (take split words) (map shown_first xs) id cpu section c.first h.one
              (at_map shown_first xs id (cpu, section, c) at));
          other = subst (second (drop split words)) (sym (map-set shown_second xs id x))
              (other.closes (drop split words) (map shown_second xs) id cpu section c.second h.other
              (at_map shown_second xs id (cpu, section, c) at));
          told = each_set IsTold xs id x h.told (h.told id (cpu, section, c) at);
        };
    deals = λ words xs id who section c cpu h at.
        let x : ClientView (BothKnown C D) =
        (cpu, None, of_both idle_first idle_second c) in record {
          one = subst (first (take split words)) (sym (map-append shown_first xs (x ∷ [])))
              (one.deals (take split words) (map shown_first xs) id who section c.first cpu h.one
              (at_map shown_first xs id (who, section, c) at));
          other = subst (second (drop split words)) (sym (map-append shown_second xs (x ∷ [])))
              (other.deals (drop split words) (map shown_second xs) id who section c.second cpu
              h.other
              (at_map shown_second xs id (who, section, c) at));
          told = each_more IsTold xs x h.told (h.told id (who, section, c) at);
        };
    hands = λ words xs id c h at.
        let left : ClientView (BothKnown C D) = (None, None, of_both idle_first idle_second c) in
        let new : ClientView (BothKnown C D) = (None, None, c) in
        let told = h.told id (None, None, c) at in record {
          one = subst (first (take split words)) (sym (shown_more shown_first xs id left new))
              (one.hands (take split words) (map shown_first xs) id c.first h.one
              (at_map shown_first xs id (None, None, c) at));
          other = subst (second (drop split words)) (sym (shown_more shown_second xs id left new))
              (other.hands (drop split words) (map shown_second xs) id c.second h.other
              (at_map shown_second xs id (None, None, c) at));
          told = each_more IsTold (slice_set xs id left) new
              (each_set IsTold xs id left h.told told) told;
        };
  }

module _ {D C : Type 0} (lens : Lens D C) (idle closed : C → C) (idle_whole closed_whole : D → D)
    (is : IsLens lens idle closed idle_whole closed_whole) (begins : ℕ → ℕ) (d : D)
    (told : (base : ℕ) → lens.begins base d ≡ begins base) where
  -- the start of the words of a part, by a first seat that shows it: this far behind that of all
  -- words
  pub begins_behind : (base : ℕ) → begins base ≡ base + begins 0
  begins_behind base =
      let far = told base in
      let near = told 0 in
      let between = is.behind base d in omega (arith, far, near, between)

  -- the start of the words of a part of the second: behind those of the first
  pub begins_second : (split : ℕ) → begins (0 + split) ≡ split + begins 0
  begins_second split = let far = begins_behind (0 + split) in omega (arith, far)

-- the first words of a pair are those of both
pub adds_both : {C D : Type 0} (first : List ℕ → Views C → Type 0)
    (second : List ℕ → Views D → Type 0) (split : ℕ) (c : C) (d : D) (size_first size_second : ℕ)
    (old mid new : List ℕ)
    → HasAdded first c size_first old mid
    → HasAdded second d size_second mid new
    → split ≡ size_first
    → HasAdded (HoldsBoth first second split) (record { first = c; second = d; split = split })
    (split + size_second) old new
adds_both {C} {D} first second split c d size_first size_second old mid new one other is =
    let many : length one.own ≡ split = one.many ∙ sym is in record {
      own = one.own ++ other.own;
      added = other.added ∙ ap (λ (front : List ℕ). front ++ other.own) one.added
          ∙ append_assoc old one.own other.own;
      many = length-append one.own other.own ∙ ap (λ (n : ℕ). n + length other.own) many
          ∙ ap (λ (n : ℕ). split + n) other.many;
      kept = record {
        one = subst (λ (words : List ℕ). first words ((None, None, c) ∷ []))
            (sym (front_of one.own other.own split many)) one.kept;
        other = subst (λ (words : List ℕ). second words ((None, None, d) ∷ []))
            (sym (behind_of one.own other.own split many)) other.kept;
        told = λ id x at. alone id x at;
      };
    }
  where
    alone : (id : ℕ) (x : ClientView (BothKnown C D))
        → get_elem? ((None, None, record { first = c; second = d; split = split }) ∷ []) id ≡ some x
        → x.2.split ≡ split
    alone zero x at =
        ap (λ (y : ClientView (BothKnown C D)). y.2.split) (sym (some-injective _ _ at))
    alone (suc id) x at = absurd (some-ne-none x (sym at))
