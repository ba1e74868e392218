-- A line that is put in parts, after room was made for it.
use Rattle.std.proofs.Common.{◌≡◌, ◌∙◌, ◌++◌, ℕ, List, [], ap, append_assoc, decimal, subst}
use Rattle.rcu_text.specs.Outputs.{Out, Sends, after_put_text}
use Rattle.rcu_text.specs.Texts.{text_and_number}
use Rattle.rcu_text.proofs.CallerLemmas.{put_twice, sends_behind}

-- a word with a number behind it, and then a text
pub number_and_text : (a b c d : Out) (word : List ℕ) (n : ℕ) (text : List ℕ) → Sends a b []
    → c ≡ after_put_text b (text_and_number word n) → d ≡ after_put_text c text
    → Sends a d (word ++ (decimal n ++ text))
number_and_text a b c d word n text room first second =
    let e =
    second
    ∙ ap (λ (o : Out). after_put_text o text) first
    ∙ put_twice b (text_and_number word n) text in
    subst (Sends a d) (append_assoc word (decimal n) text) (sends_behind _ _ _ _ room e)
