use Rattle.std.proofs.Common.{ℕ, List, ap, refl, sym}
use Rattle.std.specs.Prelude.{slice_index}
use mathlib.Core.Option.{some-ne-none}
use Rattle.rcu_live.proofs.definition_laws.a_pair_holds_where_each_does.Goals as goal

pub returns-clause-both : goal.returns-clause-both
returns-clause-both g = record {
  one = refl;
  other = refl;
  told = λ id x at. absurd (some-ne-none x (sym at));
}

pub returns-clause-other_way : goal.returns-clause-other_way
returns-clause-other_way g = λ h.
    let same = ap (λ (words : List ℕ). slice_index words 0) h.one in absurd (cc)

pub returns-clause-told : goal.returns-clause-told
returns-clause-told g = λ words h. let same = h.told 0 _ refl in absurd (cc)

pub returns-clause-idle : goal.returns-clause-idle
returns-clause-idle g = λ known. refl
