-- For callers: lists whose callbacks are done or wait for at most a number, up to one place.
use Rattle.std.proofs.Common.{◌≡◌, ℕ, zero, suc, ◌≤◌, Bool, true, false, nat_le, List, [], ◌∷◌}
use Rattle.std.proofs.Common.{◌++◌, refl, sym, ap, ◌∙◌, subst, arith, cond, map, append_assoc}
use Rattle.std.specs.Prelude.{All}
use Rattle.std.proofs.lemmas.Bool.Decides.{nat_tests}
use Rattle.std.proofs.lemmas.List.{map-append}
use Rattle.std.proofs.lemmas.List.Elements.{All-nil, All-cons, All-head, All-tail, All-append}
use Rattle.std.proofs.lemmas.List.Elements.{All-weaker, All-map}
use Rattle.rcu_seq.specs.Numbers.{snapshot}
use Rattle.rcu_cblist.specs.SegList.{Item, Of, Marker, Mark, Unmarked, Until, Done, behind}
use Rattle.rcu_cblist.specs.SegList.{after_migrate, as_it_leaves, from_callback, front, mark_given}
use Rattle.rcu_cblist.specs.SegList.{mark_renumbered, remarked, waits, without_mark}
use Rattle.rcu_cblist.proofs.SegListLemmas.{each_entrained}
use Rattle.rcu_barrier.specs.Tending.{mark_after_tend, after_tend}
use Rattle.rcu_barrier.proofs.Places.{lies, lies-append, lies-parts, lies-remarked}

-- a callback waits for at most a number, if it waits
abbrev pub IsMarkedBy : ℕ → Mark → Type 0
IsMarkedBy n Unmarked = Unit {0}
IsMarkedBy n (Until k) = k ≤ n
IsMarkedBy n Done = Unit {0}

-- a callback is done, or waits for at most this number
abbrev pub IsSoon : ℕ → Mark → Type 0
IsSoon n Unmarked = ⊥
IsSoon n (Until k) = k ≤ n
IsSoon n Done = Unit {0}

given_by : (v k : ℕ) (b : Bool) → k ≤ snapshot v
    → IsMarkedBy (snapshot v) (mark_given (snapshot v) (cond b Done (Until k)))
given_by v k true l = tt
given_by v k false l = l

given_soon : (v n k : ℕ) (b : Bool) → k ≤ n
    → IsSoon n (mark_given (snapshot v) (cond b Done (Until k)))
given_soon v n k true l = tt
given_soon v n k false l = l

module _ {X : Type 0} where
  -- if each item has a property, and a marker too, each has it as the list leaves
  pub each_leaving : (P : Item X → Type 0) (wanted : Bool) (xs : List (Item X)) → P Marker
      → All P xs → All P (as_it_leaves xs wanted)
  each_leaving P false xs marker each = each
  each_leaving P true xs marker each = each_entrained P xs marker each

  -- an item waits for at most a number
  abbrev pub MarkedBy : ℕ → Item X → Type 0
  MarkedBy n (Of call mark) = IsMarkedBy n mark
  MarkedBy n Marker = Unit {0}

  pub marked_later : (n m : ℕ) → n ≤ m → (x : Item X) → MarkedBy n x → MarkedBy m x
  marked_later n m l (Of call Unmarked) b = tt
  marked_later n m l (Of call (Until k)) b = omega (arith, l, b)
  marked_later n m l (Of call Done) b = tt
  marked_later n m l Marker b = tt

  pub marked_tended : (v : ℕ) (x : Item X) → MarkedBy (snapshot v) x
      → MarkedBy (snapshot v) (remarked (mark_after_tend v) x)
  marked_tended v (Of call Unmarked) b = omega arith
  marked_tended v (Of call (Until k)) b = given_by v k (nat_le k v) b
  marked_tended v (Of call Done) b = tt
  marked_tended v Marker b = tt

  pub marked_anew : (n : ℕ) (x : Item X) → MarkedBy n (remarked mark_renumbered x)
  marked_anew n (Of call Unmarked) = tt
  marked_anew n (Of call (Until k)) = tt
  marked_anew n (Of call Done) = tt
  marked_anew n Marker = tt

  pub unmarked_by : (n : ℕ) (x : Item X) → MarkedBy n (without_mark x)
  unmarked_by n (Of call mark) = tt
  unmarked_by n Marker = tt

  -- an item is done, or waits for at most this number
  abbrev pub Soon : ℕ → Item X → Type 0
  Soon n (Of call mark) = IsSoon n mark
  Soon n Marker = Unit {0}

  pub soon_at_first : (v : ℕ) (x : Item X) → MarkedBy (snapshot v) x
      → Soon (snapshot v) (remarked (mark_after_tend v) x)
  soon_at_first v (Of call Unmarked) b = omega arith
  soon_at_first v (Of call (Until k)) b = given_soon v (snapshot v) k (nat_le k v) b
  soon_at_first v (Of call Done) b = tt
  soon_at_first v Marker b = tt

  pub soon_tended : (n v : ℕ) (x : Item X) → Soon n x → Soon n (remarked (mark_after_tend v) x)
  soon_tended n v (Of call Unmarked) b = absurd b
  soon_tended n v (Of call (Until k)) b = given_soon v n k (nat_le k v) b
  soon_tended n v (Of call Done) b = tt
  soon_tended n v Marker b = tt

  pub done_tended : (n v : ℕ) → n ≤ v → (x : Item X) → Soon n x
      → waits (remarked (mark_after_tend v) x) ≡ false
  done_tended n v l (Of call Unmarked) b = absurd b
  done_tended n v l (Of call (Until k)) b = reached (nat_le k v) (above k n v b l)
    where
      above : (k n v : ℕ) → k ≤ n → n ≤ v → nat_le k v ≡ true
      above k n v b l = grind (arith, nat_tests)

      reached : (b : Bool) → b ≡ true
          → waits (Of call (mark_given (snapshot v) (cond b Done (Until k)))) ≡ false
      reached true e = refl
      reached false e = absurd (cc)
  done_tended n v l (Of call Done) b = refl
  done_tended n v l Marker b = refl

  pub front_soon : (n : ℕ) (xs : List (Item X)) → All (Soon n) (front xs)
  front_soon n [] = All-nil (Soon n)
  front_soon n (Marker ∷ xs) = All-cons (Soon n) Marker (front xs) tt (front_soon n xs)
  front_soon n (Of call Unmarked ∷ xs) = All-nil (Soon n)
  front_soon n (Of call (Until k) ∷ xs) = All-nil (Soon n)
  front_soon n (Of call Done ∷ xs) =
      All-cons (Soon n) (Of call Done) (front xs) tt (front_soon n xs)

  -- a list in two parts: each callback of the first is done or waits for at most this number, and
  -- the callback of this place is not in the second
  pub record Parted (j n : ℕ) (xs : List (Item X)) : Type 0 where
    pub soon : List (Item X)
    pub rest : List (Item X)
    pub is : xs ≡ soon ++ rest
    pub each : All (Soon n) soon
    pub none : lies j rest ≡ 0

  pub parted_remarked : (j n : ℕ) (f : Mark → Mark) (xs : List (Item X))
      → ((x : Item X) → Soon n x → Soon n (remarked f x)) → Parted j n xs
      → Parted j n (map (remarked f) xs)
  parted_remarked j n f xs k o = record {
    soon = map (remarked f) o.soon;
    rest = map (remarked f) o.rest;
    is = ap (λ (ys : List (Item X)). map (remarked f) ys) o.is
        ∙ map-append (remarked f) o.soon o.rest;
    each = All-map (Soon n) (remarked f) o.soon
        (All-weaker (Soon n) (λ x. Soon n (remarked f x)) k o.soon o.each);
    none = lies-remarked j f o.rest ∙ o.none;
  }

  pub lies_from : (j k : ℕ) (xs : List (Item X)) → lies j (from_callback k xs) ≤ lies j xs
  lies_from j k [] = omega arith
  lies_from j k (Marker ∷ xs) = lies_from j k xs
  lies_from j zero (Of call mark ∷ xs) = omega arith
  lies_from j (suc k) (Of call mark ∷ xs) = let i = lies_from j k xs in omega (arith, i)

  pub from_parted : (j n k : ℕ) (soon rest : List (Item X)) → All (Soon n) soon → lies j rest ≡ 0
      → Parted j n (from_callback k (soon ++ rest))
  from_parted j n k [] rest a z = record {
    soon = [];
    rest = from_callback k rest;
    is = refl;
    each = All-nil (Soon n);
    none = let l = lies_from j k rest in omega (arith, l, z);
  }
  from_parted j n k (Marker ∷ soon) rest a z =
      from_parted j n k soon rest (All-tail (Soon n) Marker soon a) z
  from_parted j n zero (Of call mark ∷ soon) rest a z =
      record { soon = Of call mark ∷ soon; rest = rest; is = refl; each = a; none = z }
  from_parted j n (suc k) (Of call mark ∷ soon) rest a z =
      from_parted j n k soon rest (All-tail (Soon n) (Of call mark) soon a) z

  pub parted_from : (j n k : ℕ) (xs : List (Item X)) → Parted j n xs
      → Parted j n (from_callback k xs)
  parted_from j n k xs o =
      subst (λ ys. Parted j n (from_callback k ys)) (sym o.is)
      (from_parted j n k o.soon o.rest o.each o.none)

  pub parted_append : (j n : ℕ) (xs ys : List (Item X)) → lies j ys ≡ 0 → Parted j n xs
      → Parted j n (xs ++ ys)
  parted_append j n xs ys z o = record {
    soon = o.soon;
    rest = o.rest ++ ys;
    is = ap (λ (zs : List (Item X)). zs ++ ys) o.is ∙ append_assoc o.soon o.rest ys;
    each = o.each;
    none = let l = lies-append j o.rest ys in let m = o.none in omega (arith, l, m, z);
  }

  pub parted_leaving : (j n : ℕ) (b : Bool) (xs : List (Item X)) → Parted j n xs
      → Parted j n (as_it_leaves xs b)
  parted_leaving j n false xs o = o
  parted_leaving j n true [] o = o
  parted_leaving j n true (x ∷ xs) o = parted_append j n (x ∷ xs) (Marker ∷ []) refl o

  pub parted_moved : (j n : ℕ) (zs xs : List (Item X)) → lies j zs ≡ 0 → Parted j n xs
      → Parted j n (after_migrate xs zs)
  parted_moved j n zs xs z o =
      let parts = lies-parts j zs in
      let moved = lies-remarked j (λ _. Unmarked) (behind zs) in
      parted_append j n (front zs ++ xs) (map without_mark (behind zs))
      (omega (arith, parts, moved, z)) (record {
        soon = front zs ++ o.soon;
        rest = o.rest;
        is = ap (λ (ys : List (Item X)). front zs ++ ys) o.is
            ∙ sym (append_assoc (front zs) o.soon o.rest);
        each = All-append (Soon n) (front zs) o.soon (front_soon n zs) o.each;
        none = o.none;
      })

  pub parted_cond : (j n : ℕ) (b : Bool) (xs ys : List (Item X)) → (b ≡ true → Parted j n xs)
      → (b ≡ false → Parted j n ys) → Parted j n (cond b xs ys)
  parted_cond j n true xs ys f g = f refl
  parted_cond j n false xs ys f g = g refl

  pub lies_cond : (j : ℕ) (b : Bool) (xs ys zs : List (Item X)) → lies j zs ≤ lies j xs
      → lies j zs ≤ lies j ys → lies j zs ≤ lies j (cond b xs ys)
  lies_cond j true xs ys zs l m = l
  lies_cond j false xs ys zs l m = m

  pub behind_done : (xs ys : List (Item X)) → All (λ x. waits x ≡ false) xs
      → behind (xs ++ ys) ≡ behind ys
  behind_done [] ys a = refl
  behind_done (x ∷ xs) ys a =
      let w = All-head (λ x. waits x ≡ false) x xs a in
      ap (λ b. cond b (x ∷ (xs ++ ys)) (behind (xs ++ ys))) w
      ∙ behind_done xs ys (All-tail (λ x. waits x ≡ false) x xs a)

  pub none_behind : (j n v : ℕ) (xs : List (Item X)) → n ≤ v → Parted j n xs
      → lies j (behind (after_tend xs v)) ≡ 0
  none_behind j n v xs l o =
      let change = remarked (mark_after_tend v) in
      let is = ap (λ (ys : List (Item X)). map change ys) o.is ∙ map-append change o.soon o.rest in
      let all = All-map (λ x. waits x ≡ false) change o.soon
      (All-weaker (Soon n) (λ x. waits (change x) ≡ false) (done_tended n v l) o.soon o.each) in
      let a = ap (λ (ys : List (Item X)). lies j (behind ys)) is in
      let b = ap (λ (ys : List (Item X)). lies j ys)
      (behind_done (map change o.soon) (map change o.rest) all) in
      let parts = lies-parts j (map change o.rest) in
      let rest = lies-remarked j (mark_after_tend v) o.rest in
      let none = o.none in
      omega (arith, a, b, parts, rest, none)
