-- The awaited set, by which processors were heard.
use Rattle.std.proofs.Common.{◌≡◌, ℕ, ◌==◌, ◌&&◌, ◌||◌, ◌++◌, Bool, true, false, not, List, [], ◌∷◌}
use Rattle.std.proofs.Common.{refl, sym, ap, ◌∙◌}
use Rattle.std.proofs.Math.Bool.{or-false}
use Rattle.rcu_seq.specs.Tags.{same_tag}
use Rattle.rcu_seq.specs.declared.tag.Tag.{Tag}
use Rattle.rcu_node.specs.CpuSet.{intersection, is_in, unheard}
use Rattle.rcu_node.specs.Reports.{awaited_after_reports, was_reported}
use Rattle.rcu_node.proofs.CpuSetLemmas.{is_in-intersection, is_in-unheard, length-intersection}
use Rattle.rcu_node.proofs.CpuSetLemmas.{length-unheard, same_from_flags}
use Rattle.rcu_node.proofs.ReportLemmas.{length-awaited_after_reports, unreported}

-- after reports the unheard are awaited
pub after_reports-unheard : (number : Tag) (set : List Bool) (reports : List (ℕ × Tag))
    → awaited_after_reports number set reports
    ≡ unheard set (λ cpu. was_reported number cpu reports)
after_reports-unheard number set reports =
    let heard = λ (cpu : ℕ). was_reported number cpu reports in
    same_from_flags (awaited_after_reports number set reports) (unheard set heard)
    (length-awaited_after_reports number set reports ∙ sym (length-unheard set heard)) (λ cpu.
    unreported number set reports cpu ∙ sym (is_in-unheard set heard cpu))

-- if the same processors were heard, the same are unheard
unheard-same : (set : List Bool) (heard other : ℕ → Bool) → ((cpu : ℕ) → heard cpu ≡ other cpu)
    → unheard set heard ≡ unheard set other
unheard-same set heard other h =
    same_from_flags (unheard set heard) (unheard set other)
    (length-unheard set heard ∙ sym (length-unheard set other))
    (λ cpu.
    is_in-unheard set heard cpu
    ∙ ap (λ b. is_in set cpu && not b) (h cpu)
    ∙ sym (is_in-unheard set other cpu))

pub equally_heard : (number : Tag) (set : List Bool) (reports others : List (ℕ × Tag))
    → ((cpu : ℕ) → was_reported number cpu reports ≡ was_reported number cpu others)
    → awaited_after_reports number set reports ≡ awaited_after_reports number set others
equally_heard number set reports others h =
    after_reports-unheard number set reports
    ∙ unheard-same set (λ cpu. was_reported number cpu reports)
    (λ cpu. was_reported number cpu others) h
    ∙ sym (after_reports-unheard number set others)

-- unheard of either is unheard of both
unheard_flag : (there heard other : Bool)
    → ((there && not heard) && (there && not other)) ≡ (there && not (heard || other))
unheard_flag true true other = refl
unheard_flag true false other = refl
unheard_flag false heard other = refl

pub unheard-merged : (set : List Bool) (heard other : ℕ → Bool)
    → intersection (unheard set heard) (unheard set other)
    ≡ unheard set (λ cpu. heard cpu || other cpu)
unheard-merged set heard other =
    let either = λ (cpu : ℕ). heard cpu || other cpu in
    same_from_flags (intersection (unheard set heard) (unheard set other)) (unheard set either)
    (length-intersection (unheard set heard) (unheard set other) ∙ length-unheard set heard
    ∙ sym (length-unheard set either)) (λ cpu.
    is_in-intersection (unheard set heard) (unheard set other) cpu
    ∙ ap (λ there. there && is_in (unheard set other) cpu) (is_in-unheard set heard cpu)
    ∙ ap (λ there. (is_in set cpu && not (heard cpu)) && there) (is_in-unheard set other cpu)
    ∙ unheard_flag (is_in set cpu) (heard cpu) (other cpu) ∙ sym (is_in-unheard set either cpu))

-- a report of either list is one of both together
or_over : (latest other earlier : Bool)
    → (latest || (other || earlier)) ≡ (other || (latest || earlier))
or_over true true earlier = refl
or_over true false earlier = refl
or_over false other earlier = refl

was_reported-both : (number : Tag) (cpu : ℕ) (reports others : List (ℕ × Tag))
    → (was_reported number cpu reports || was_reported number cpu others)
    ≡ was_reported number cpu (others ++ reports)
was_reported-both number cpu reports [] = or-false (was_reported number cpu reports)
was_reported-both number cpu reports (report ∷ others) =
    or_over (was_reported number cpu reports) (report.0 == cpu && same_tag report.1 number)
    (was_reported number cpu others)
    ∙ ap (λ b. (report.0 == cpu && same_tag report.1 number) || b)
    (was_reported-both number cpu reports others)

pub reports-merged : (number : Tag) (set : List Bool) (reports others : List (ℕ × Tag))
    → intersection (awaited_after_reports number set reports)
    (awaited_after_reports number set others)
    ≡ awaited_after_reports number set (others ++ reports)
reports-merged number set reports others =
    let heard = λ (cpu : ℕ). was_reported number cpu reports in
    let other = λ (cpu : ℕ). was_reported number cpu others in
    let all = λ (cpu : ℕ). was_reported number cpu (others ++ reports) in
    ap (λ (s : List Bool). intersection s (awaited_after_reports number set others))
    (after_reports-unheard number set reports)
    ∙ ap (λ (s : List Bool). intersection (unheard set heard) s)
    (after_reports-unheard number set others)
    ∙ unheard-merged set heard other
    ∙ unheard-same set (λ cpu. heard cpu || other cpu) all
    (λ cpu. was_reported-both number cpu reports others)
    ∙ sym (after_reports-unheard number set (others ++ reports))
