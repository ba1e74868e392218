use Rattle.std.proofs.Common.{◌≡◌, arith, ap, ◌∙◌, sym, subst, length, List, Bool, ℕ}
use Rattle.rcu_node.specs.CpuSet.{size_of}
use Rattle.rcu_node.specs.Words.{flags_in, HasNoneFrom}
use Rattle.rcu_node.proofs.Words.{cpus-is}
use Rattle.rcu_node.proofs.cpu_set.CpuSet.copy_from.Goals as goal

pub copy_from_slice-requires : goal.copy_from_slice-requires
copy_from_slice-requires c =
    let s = c.self.inside in
    let f = c.from.inside in
    let size = cpus-is s.cpus s.words.items c.args.self.now c.self.view_is in
    let other = cpus-is f.cpus f.words.items c.args.from.now c.from.view_is in
    omega (arith, s.words.ok, f.words.ok, c.deref.ensures, c.self.invariant, c.from.invariant)

pub returns : goal.returns
returns c =
    let s = c.self.inside in
    let f = c.from.inside in
    let size = cpus-is s.cpus s.words.items c.args.self.now c.self.view_is in
    let other = cpus-is f.cpus f.words.items c.args.from.now c.from.view_is in
    let same : s.cpus ≡ f.cpus = omega arith in
    ap (λ n. flags_in n c.copy_from_slice.new.self.items) same
    ∙ ap (λ (words : List ℕ). flags_in f.cpus words)
    (c.copy_from_slice.ensures.items ∙ c.deref.ensures.value)
    ∙ c.from.view_is

pub invariant_of-self : goal.invariant_of-self
invariant_of-self c =
    let s = c.self.inside in
    let f = c.from.inside in
    let kept = c.self.invariant in
    let size = cpus-is s.cpus s.words.items c.args.self.now c.self.view_is in
    let other = cpus-is f.cpus f.words.items c.args.from.now c.from.view_is in
    let words = ap (λ (words : List ℕ). length words)
    (c.copy_from_slice.ensures.items ∙ c.deref.ensures.value) in
    let copied = c.copy_from_slice.ensures.items ∙ c.deref.ensures.value in
    let same : f.cpus ≡ s.cpus = omega arith in
    let none_beyond = subst (λ (words : List ℕ). HasNoneFrom s.cpus words) (sym copied)
    (subst (λ (n : ℕ). HasNoneFrom n f.words.items) same c.from.invariant.none_beyond) in
    let counted =
    c.from.invariant.counted
    ∙ ap (λ (set : List Bool). size_of set) (c.from.view_is ∙ sym (returns c)) in
    record {
      some = kept.some;
      few = kept.few;
      enough = omega (arith, words, c.from.invariant);
      no_more = omega (arith, words, c.from.invariant);
      none_beyond = none_beyond;
      counted = counted;
    }
