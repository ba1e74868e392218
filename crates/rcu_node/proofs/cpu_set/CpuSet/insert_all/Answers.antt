use Rattle.std.proofs.Common.{◌≡◌, ◌≤◌, ◌*◌, ◌∙◌, arith, sym, ap, subst, length, List, ℕ}
use Rattle.rcu_node.specs.CpuSet.{size_of}
use Rattle.rcu_node.specs.Words.{flags_in, HasNoneFrom}
use Rattle.rcu_node.proofs.Words.{cpus-is}
use Rattle.rcu_node.proofs.Union.{union-is, none_beyond-merged, count-is, written_merged}
use Rattle.rcu_node.proofs.cpu_set.CpuSet.insert_all.Goals as goal

pub merge-requires : goal.merge-requires
merge-requires c =
    let s = c.self.inside in
    let o = c.other.inside in
    let size = cpus-is s.cpus s.words.items c.args.self.now c.self.view_is in
    let other = cpus-is o.cpus o.words.items c.args.other.now c.other.view_is in
    omega (
      arith,
      s.words.ok,
      o.words.ok,
      c.deref_mut.ensures,
      c.deref.ensures,
      c.self.invariant,
      c.other.invariant,
    )

pub returns : goal.returns
returns c =
    let s = c.self.inside in
    let o = c.other.inside in
    let size = cpus-is s.cpus s.words.items c.args.self.now c.self.view_is in
    let other = cpus-is o.cpus o.words.items c.args.other.now c.other.view_is in
    let same : s.cpus ≡ o.cpus = omega arith in
    let alike : length c.deref.result.now ≡ length c.deref_mut.result.now =
    omega (
      arith,
      s.words.ok,
      o.words.ok,
      c.deref_mut.ensures,
      c.deref.ensures,
      c.self.invariant,
      c.other.invariant,
    ) in
    let merged = written_merged s.words.len c.deref_mut.result.now c.deref.result.now
    c.merge.new.words s.words.items c.deref-2.result.now alike c.merge.auto.words
    c.deref_mut.ensures.len c.merge.ensures c.deref-2.ensures.value in
    let first =
    ap (λ (words : List ℕ). flags_in s.cpus words) c.deref_mut.ensures.value ∙ c.self.view_is in
    let second =
    ap (λ (words : List ℕ). flags_in s.cpus words) c.deref.ensures.value
    ∙ ap (λ n. flags_in n o.words.items) same
    ∙ c.other.view_is in
    ap (λ (words : List ℕ). flags_in s.cpus words) (sym c.deref-2.ensures.value)
    ∙ union-is s.cpus c.deref_mut.result.now c.deref.result.now c.deref-2.result.now c.args.self.now
    c.args.other.now first second merged

pub invariant_of-self : goal.invariant_of-self
invariant_of-self c =
    let s = c.self.inside in
    let o = c.other.inside in
    let kept = c.self.invariant in
    let size = cpus-is s.cpus s.words.items c.args.self.now c.self.view_is in
    let other = cpus-is o.cpus o.words.items c.args.other.now c.other.view_is in
    let same : o.cpus ≡ s.cpus = omega arith in
    let alike : length c.deref.result.now ≡ length c.deref_mut.result.now =
    omega (
      arith,
      s.words.ok,
      o.words.ok,
      c.deref_mut.ensures,
      c.deref.ensures,
      c.self.invariant,
      c.other.invariant,
    ) in
    let merged = written_merged s.words.len c.deref_mut.result.now c.deref.result.now
    c.merge.new.words s.words.items c.deref-2.result.now alike c.merge.auto.words
    c.deref_mut.ensures.len c.merge.ensures c.deref-2.ensures.value in
    let none = subst (λ (words : List ℕ). HasNoneFrom s.cpus words) (sym c.deref_mut.ensures.value)
    kept.none_beyond in
    let neither = subst (λ (words : List ℕ). HasNoneFrom s.cpus words) (sym c.deref.ensures.value)
    (subst (λ (n : ℕ). HasNoneFrom n o.words.items) same c.other.invariant.none_beyond) in
    let beyond =
    none_beyond-merged s.cpus c.deref_mut.result.now c.deref.result.now c.deref-2.result.now none
    neither merged in
    let stored = c.deref-2.ensures.value in
    let long = ap (λ (words : List ℕ). length words) stored in
    let enough : s.cpus ≤ 64 * length c.deref-2.result.now =
    omega (arith, kept, s.words.ok, c.deref-2.ensures.len) in
    record {
      some = kept.some;
      few = kept.few;
      enough = omega (arith, long, enough);
      no_more = omega (arith, long, kept, s.words.ok, c.deref-2.ensures.len);
      none_beyond = subst (λ (words : List ℕ). HasNoneFrom s.cpus words) stored beyond;
      counted =
          c.count_ones-self-inside.ensures
          ∙ count-is s.cpus c.deref-2.result.now enough beyond
          ∙ ap (λ (words : List ℕ). size_of (flags_in s.cpus words)) stored;
    }
