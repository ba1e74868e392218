-- Why an engine with a map is not opened.
use Rattle.std.proofs.Common.{◌≡◌, ◌≤◌, ◌<◌, ◌+◌, ◌*◌, ◌^◌, ℕ, Bool, true, false, Result, Err, Ok}
use Rattle.std.proofs.Common.{None, Some, refl, subst, sym, ap, ◌∙◌, arith}
use Rattle.std.proofs.Math.Nat.{le-mul_of_pos_right}
use Rattle.std.proofs.lemmas.Bool.Decides.{nat_tests}
use Rattle.std.specs.Prelude.{◌↔◌, ◌&&◌, [], ◌∷◌, nat_le, nat_lt, not}
use Rattle.rcu_seq.specs.Fault.{first_fault}
use Rattle.rcu_seq.specs.Numbers.{is_last}
use Rattle.rcu_seq.specs.declared.fault.Fault.TheVariants.{BadFanout, BadLast, TooManyCpus}
use Rattle.rcu_geometry.specs.Opening.{opening_refusal}
use Rattle.rcu_graph.specs.Opening.{IsSized, tested_opening}
use Rattle.rcu_graph.specs.declared.not_opened.NotOpened.{NotOpened}
use Rattle.rcu_graph.specs.declared.not_opened.NotOpened.TheVariants.{BadSizes}
use Rattle.rcu_graph.specs.declared.not_opened.NotOpened.TheVariants as not_opened
use Rattle.rcu_graph.specs.declared.plan.Plan.{Plan}
use Rattle.rcu_map.specs.Chains.{HasSizes, plan_of_map}
use Rattle.rcu_c.specs.Answers.{refusal_of}
use Rattle.rcu_c.specs.MapSizes.{are_sizes, map_opening_refusal, plan_of_sizes, width_in}
use Rattle.rcu_c.specs.Refusals.{by_engine, tested_refusal}
use Rattle.rcu_c.specs.declared.map_sizes.MapSizes.{MapSizes}

module _ (b width n : ℕ) where
  abbrev IsTested : Bool
  IsTested = nat_lt 0 b && (nat_le 2 width && nat_le ((1 + width) * (b + n + 1)) (2 ^ 32))

  -- the sizes that pass the test are those that a map may have
  fit : (seed : ℕ) → IsTested ≡ true → IsSized (plan_of_map b width n seed)
  fit seed passed =
      let some : 0 < b + n + 1 = omega arith in
      let small : (1 + width) * (b + n + 1) ≤ 2 ^ 32 = grind (arith, nat_tests) in
      record {
        words = grind (arith, nat_tests);
        inside = omega arith;
        row = omega (arith, small, le-mul_of_pos_right (1 + width) some);
        small = small;
      }

  passes : (seed : ℕ) → 0 < b → 2 ≤ width → IsSized (plan_of_map b width n seed)
      → IsTested ≡ true
  passes seed some wide is =
      let small : (1 + width) * (b + n + 1) ≤ 2 ^ 32 = is.small in
      grind (arith, nat_tests)

unfit_by_test : (s : MapSizes) (cpus last : ℕ)
    → (HasSizes s.buckets (width_in s) s.entries → ⊥) → (b : Bool) → are_sizes s ≡ b
    → Some (refusal_of BadSizes) ≡ map_opening_refusal s cpus last
unfit_by_test s cpus last none true passed =
    let wide : 2 ≤ width_in s = grind (arith, nat_tests) in
    let sized = fit s.buckets (width_in s) s.entries 0 passed in
    absurd (none (record {
      some = grind (arith, nat_tests);
      wide = wide;
      graph = record {
        words = omega (arith, wide);
        inside = sized.inside;
        row = sized.row;
        small = sized.small;
      };
    }))
unfit_by_test s cpus last none false failed = rw failed refl

-- sizes that no map may have are refused
pub unfit_told : (s : MapSizes) (cpus last : ℕ)
    → (HasSizes s.buckets (width_in s) s.entries → ⊥)
    → Some (refusal_of BadSizes) ≡ map_opening_refusal s cpus last
unfit_told s cpus last none = unfit_by_test s cpus last none (are_sizes s) refl

-- as many processors are held by leaves of 64 as by those of 16: 4,096
both_hold : (cpus : ℕ)
    → (nat_le cpus 4096 && nat_le cpus (64 * 64 ^ 3))
    ≡ (nat_le cpus 4096 && nat_le cpus (16 * 64 ^ 3))
both_hold cpus = grind (arith, nat_tests)

-- so an engine is refused for the same reasons
leaves_told : (cpus last : ℕ) → opening_refusal 64 64 cpus last ≡ opening_refusal 16 64 cpus last
leaves_told cpus last =
    ap (λ (held : Bool).
    first_fault
    ((false, BadFanout) ∷ (not (nat_lt 0 cpus && held), TooManyCpus)
    ∷ (not (is_last last), BadLast) ∷ []))
    (both_hold cpus)

module _ {A : Type 0} (s : MapSizes) (cpus last : ℕ) (plan : Plan) (result : Result A NotOpened)
    (planned : plan ≡ plan_of_sizes s) (some : 0 < plan.roots) (wide : 2 ≤ plan.words)
    (sized : (result ≡ Err BadSizes) ↔ (IsSized plan → ⊥))
    (fault : IsSized plan → tested_opening result ≡ opening_refusal 64 64 cpus last)
  where
    is_fit : are_sizes s ≡ true → IsSized plan
    is_fit passed = subst IsSized (sym planned) (fit s.buckets (width_in s) s.entries s.seed passed)

    is_tested : IsSized plan → are_sizes s ≡ true
    is_tested is =
        passes s.buckets (width_in s) s.entries s.seed
        (subst (λ (p : Plan). 0 < p.roots) planned some)
        (subst (λ (p : Plan). 2 ≤ p.words) planned wide) (subst IsSized planned is)

    by_test : (b : Bool) → are_sizes s ≡ b → (why : NotOpened) → result ≡ Err why
        → tested_refusal {A = A} (Err (refusal_of why)) ≡ map_opening_refusal s cpus last
    by_test true passed BadSizes is = absurd (sized.0 is (is_fit passed))
    by_test true passed (not_opened.Fault why) is =
        rw passed
        (ap by_engine
        (ap tested_opening (sym is) ∙ fault (is_fit passed) ∙ leaves_told cpus last))
    by_test false failed BadSizes is = rw failed refl
    by_test false failed (not_opened.Fault why) is =
        let bad : result ≡ Err BadSizes = sized.1 (λ has. (cc (is_tested has))) in cc

    -- an opening that fails returns the refusal of its sizes, or else that of its processors and
    -- its last number
    pub refused_told : (why : NotOpened) → result ≡ Err why
        → tested_refusal {A = A} (Err (refusal_of why)) ≡ map_opening_refusal s cpus last
    refused_told = by_test (are_sizes s) refl

    by_acceptance : (b : Bool) → are_sizes s ≡ b → (value : A) → result ≡ Ok value
        → None ≡ map_opening_refusal s cpus last
    by_acceptance true passed value is =
        rw passed
        (ap by_engine (ap tested_opening (sym is) ∙ fault (is_fit passed) ∙ leaves_told cpus last))
    by_acceptance false failed value is =
        let bad : result ≡ Err BadSizes = sized.1 (λ has. (cc (is_tested has))) in cc

    -- and no cause holds of one that does not fail
    pub accepted_told : (value : A) → result ≡ Ok value → None ≡ map_opening_refusal s cpus last
    accepted_told = by_acceptance (are_sizes s) refl
