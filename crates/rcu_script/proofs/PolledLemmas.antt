-- A script that takes a cookie and later finds it done ran as the law of cookies asks.
use Rattle.std.proofs.Common.{◌≡◌, ◌==◌, ◌∙◌, ◌&&◌, ◌+◌, ◌^◌, ◌/◌, ◌%◌, ◌≤◌, ◌<◌, ℕ, zero, suc}
use Rattle.std.proofs.Common.{Bool, true, false, List, [], ◌∷◌, ◌++◌, length, Option, Some, None}
use Rattle.std.proofs.Common.{refl, sym, ap, subst, inl, inr, codes, arith, append_assoc, eqb-true}
use Rattle.std.proofs.Common.{if◌then◌else◌}
use Rattle.std.specs.Prelude.{nat_le, nat_lt}
use Rattle.std.specs.Fmt.{decimal, digit_glyph, digits, digits_onto}
use Rattle.std.specs.Str.Parse.{digits_value}
use Rattle.std.specs.List.{list_all, slice_split}
use Rattle.std.specs.Option.{option_map_or}
use Rattle.std.specs.Str.{bytes_eq}
use Rattle.std.proofs.Math.Nat.{pow-succ'}
use Rattle.std.proofs.lemmas.Bool.{cases_lt, ltb-true, ne_eqb}
use Rattle.std.proofs.lemmas.Fmt.{decimal_is_IsNumeral_wide, length-decimal-le}
use Rattle.std.proofs.lemmas.List.{append_cancel_left}
use Rattle.rcu_seq.specs.declared.cookie.Cookie.{Cookie}
use Rattle.rcu_core.specs.History.{History}
use Rattle.rcu_core.specs.Replies.{IsLegalReply, Size, with_event}
use Rattle.rcu_core.specs.Runs.{IsLegalRun, Run, history, takes}
use Rattle.rcu_core.specs.Situation.{situation}
use Rattle.rcu_core.specs.declared.event.Event.{Event}
use Rattle.rcu_core.specs.declared.event.Event.TheVariants.{Take, StartPoll, Poll}
use Rattle.rcu_core.specs.declared.reply.Reply.{Reply}
use Rattle.rcu_core.specs.declared.reply.Reply.TheVariants as reply
use Rattle.rcu_text.specs.Lines.{is_well_formed, line_of_words}
use Rattle.rcu_text.specs.Texts.{numbered_text}
use Rattle.rcu_text.specs.Words.{is_digit, is_number, number_in_word, value_of, words_of}
use Rattle.rcu_text.specs.declared.line_shape.Line.{Line}
use Rattle.rcu_text.specs.declared.line_shape.Line.TheVariants.{Ask, Malformed}
use Rattle.rcu_script.specs.ScriptAnswers.{Answers, AnswersLine}
use Rattle.rcu_script.specs.ScriptLines.{asked_by, cpu_of, event_alone, event_of, event_with_cpu}
use Rattle.rcu_script.specs.ScriptLines.{event_with_number, event_with_numbers}
use Rattle.rcu_script.specs.ScriptTexts.{epoch_text, text_of}
use Rattle.rcu_script.proofs.OneLineTexts.{first_number, is_break}
use Rattle.rcu_script.proofs.ScriptRunLemmas.{lines_from_first, lines_further}

-- ---- the numbers of a polled cookie fit 64 bits

abbrev Fits : Event → Type 0
Fits (Poll number epoch) = (number < 2 ^ 64) × (epoch < 2 ^ 64)
Fits _ = Unit {0}

named_fits : (found : Event) (text name : List ℕ) (e : Event) (rest : Option Event) → Fits e
    → (rest ≡ Some found → Fits found)
    → (if bytes_eq name text then Some e else rest) ≡ Some found → Fits found
named_fits found text name e rest fits later is = go (bytes_eq name text) is
  where
    out : Event → Option Event → Event
    out d None = d
    out d (Some x) = x

    go : (t : Bool) → (if t then Some e else rest) ≡ Some found → Fits found
    go true is = subst Fits (ap (out e) is) fits
    go false is = later is

fits_alone : (name : List ℕ) (e : Event) → event_alone name ≡ Some e → Fits e
fits_alone name e found =
    named_fits e (codes "begin") name _ _ tt
    (named_fits e (codes "end") name _ _ tt
    (named_fits e (codes "turn") name _ _ tt
    (named_fits e (codes "awaits") name _ _ tt
    (named_fits e (codes "take") name _ _ tt
    (named_fits e (codes "start") name _ _ tt
    (named_fits e (codes "bar") name _ _ tt
    (named_fits e (codes "bartest") name _ _ tt
    (named_fits e (codes "renumber") name _ _ tt (λ none. cc))))))))) found

fits_with_cpu : (name : List ℕ) (cpu : ℕ) (e : Event) → event_with_cpu name cpu ≡ Some e → Fits e
fits_with_cpu name cpu e found =
    named_fits e (codes "enter") name _ _ tt
    (named_fits e (codes "exit") name _ _ tt
    (named_fits e (codes "note") name _ _ tt
    (named_fits e (codes "quiet") name _ _ tt
    (named_fits e (codes "online") name _ _ tt
    (named_fits e (codes "offline") name _ _ tt
    (named_fits e (codes "tend") name _ _ tt
    (named_fits e (codes "visit") name _ _ tt
    (named_fits e (codes "idle") name _ _ tt
    (named_fits e (codes "wake") name _ _ tt
    (named_fits e (codes "scan") name _ _ tt (λ none. cc))))))))))) found

fits_with_number : (name : List ℕ) (n : ℕ) (e : Event)
    → n < 2 ^ 64 → event_with_number name n ≡ Some e → Fits e
fits_with_number name n e fits found =
    named_fits e (codes "deliver") name _ _ tt
    (named_fits e (codes "poll") name _ _ (fits, omega arith)
    (λ later. fits_with_cpu name (cpu_of n) e later))
    found

fits_with_numbers : (name : List ℕ) (first second : ℕ) (e : Event)
    → first < 2 ^ 64 → second < 2 ^ 64 → event_with_numbers name first second ≡ Some e → Fits e
fits_with_numbers name first second e fits fits_too found =
    named_fits e (codes "queue") name _ _ tt
    (named_fits e (codes "run") name _ _ tt
    (named_fits e (codes "poll") name _ _ (fits, fits_too) (λ none. cc))) found

number_fits : (word : List ℕ) (n : ℕ) → number_in_word word ≡ Some n → n < 2 ^ 64
number_fits word n found = go (is_number word) refl found
  where
    last_of : (a b c d : Bool) → (a && (b && (c && d))) ≡ true → d ≡ true
    last_of true true true d e = e
    last_of true true false d e = cc
    last_of true false c d e = cc
    last_of false b c d e = cc

    value_in : Option ℕ → ℕ
    value_in None = 0
    value_in (Some m) = m

    go : (t : Bool) → is_number word ≡ t → (if t then Some (value_of word) else None) ≡ Some n
        → n < 2 ^ 64
    go true e found =
        let low : nat_lt (value_of word) (2 ^ 64) ≡ true =
        last_of (nat_lt 0 (length word)) (nat_le (length word) 20) (list_all is_digit word) _ e in
        let fits : value_of word < 2 ^ 64 = ltb-true _ _ low in
        subst (λ (m : ℕ). m < 2 ^ 64) (ap value_in found) fits
    go false e found = cc

fits_word : (name word : List ℕ) (e : Event) (o : Option ℕ) → number_in_word word ≡ o
    → option_map_or (event_with_number name) o None ≡ Some e → Fits e
fits_word name word e None is found = cc
fits_word name word e (Some n) is found = fits_with_number name n e (number_fits word n is) found

fits_next : (name next : List ℕ) (first : ℕ) (e : Event) (o : Option ℕ)
    → first < 2 ^ 64
    → number_in_word next ≡ o
    → option_map_or (event_with_numbers name first) o None ≡ Some e
    → Fits e
fits_next name next first e None fits is found = cc
fits_next name next first e (Some second) fits is found =
    fits_with_numbers name first second e fits (number_fits next second is) found

fits_words : (name word next : List ℕ) (e : Event) (o : Option ℕ)
    → number_in_word word ≡ o
    → option_map_or
    (λ first. option_map_or (event_with_numbers name first) (number_in_word next) None) o None
    ≡ Some e
    → Fits e
fits_words name word next e None is found = cc
fits_words name word next e (Some first) is found =
    fits_next name next first e (number_in_word next) (number_fits word first is) refl found

fits_of : (name : List ℕ) (words : List (List ℕ)) (e : Event) → event_of name words ≡ Some e
    → Fits e
fits_of name [] e found = fits_alone name e found
fits_of name (word ∷ []) e found = fits_word name word e (number_in_word word) refl found
fits_of name (word ∷ next ∷ []) e found =
    fits_words name word next e (number_in_word word) refl found
fits_of name (word ∷ next ∷ more ∷ words) e found = cc

fits_ask : (name : List ℕ) (words : List (List ℕ)) (e : Event) (o : Option Event)
    → event_of name words ≡ o → option_map_or (λ (event : Event). Ask event) o Malformed ≡ Ask e
    → Fits e
fits_ask name words e None is asks = cc
fits_ask name words e (Some event) is asks =
    fits_of name words e (is ∙ ap (λ (event : Event). Some event) (ap (in_line event) asks))
  where
    in_line : Event → Line Event → Event
    in_line d (Ask event) = event
    in_line d _ = d

fits_line : (words : List (List ℕ)) (e : Event) → line_of_words event_of words ≡ Ask e → Fits e
fits_line [] e asks = cc
fits_line (name ∷ words) e asks = fits_ask name words e (event_of name words) refl asks

polled_fits : (line : List ℕ) (e : Event) → asked_by line ≡ Ask e → Fits e
polled_fits line e asks = go (is_well_formed line) asks
  where
    go : (t : Bool) → (if t then line_of_words event_of (words_of line) else Malformed) ≡ Ask e
        → Fits e
    go true asks = fits_line (words_of line) e asks
    go false asks = cc

-- ---- the cookie in a line is the one that was printed

-- a number of more digits than are printed fills them all
long_digits : (k n : ℕ) (acc : List ℕ) → 10 ^ k ≤ n
    → length (digits_onto k 10 false n acc) ≡ k + length acc
long_digits zero n acc many = omega arith
long_digits (suc k) n acc many =
    let power = pow-succ' 10 k in
    let fewer : 10 ^ k ≤ n / 10 = omega arith in
    let one : 1 ≤ 10 ^ k = pow-pos k in
    let more : (n / 10 == 0) ≡ false = ne_eqb (n / 10) 0 (omega arith) in
    rw more (long_digits k (n / 10) (digit_glyph false (n % 10) ∷ acc) fewer ∙ omega arith)
  where
    pow-pos : (j : ℕ) → 1 ≤ 10 ^ j
    pow-pos zero = omega arith
    pow-pos (suc j) = let power = pow-succ' 10 j in let ih = pow-pos j in omega arith

long_decimal : (n : ℕ) → 10 ^ 64 ≤ n → length (decimal n) ≡ 64
unfolding digits
long_decimal n many = long_digits 64 n [] many

-- a number that is printed as one that fits 64 bits is that one
printed_alike : (n k : ℕ) → k < 2 ^ 64 → decimal n ≡ decimal k → n ≡ k
printed_alike n k fits same = elim (cases_lt n (10 ^ 64)) [
  | inl low ↦
      let wide : k < 10 ^ 64 = omega arith in
      sym (decimal_is_IsNumeral_wide n low).1
      ∙ ap (digits_value 10) same
      ∙ (decimal_is_IsNumeral_wide k wide).1
  | inr many ↦
      let long = long_decimal n many in
      let short : length (decimal k) ≤ 20 =
      length-decimal-le 20 k (omega arith) (omega arith) fits in
      let alike : length (decimal n) ≡ length (decimal k) = ap (λ (l : List ℕ). length l) same in
      absurd (omega arith)
]

abbrev head_of : List (List ℕ) → List ℕ
head_of [] = []
head_of (line ∷ lines) = line

-- a number before a space or a line end, printed as one that fits 64 bits, is that one
number_alike : (n k b c : ℕ) (x y : List ℕ) → k < 2 ^ 64 → is_break b ≡ true → is_break c ≡ true
    → decimal n ++ b ∷ x ≡ decimal k ++ c ∷ y → n ≡ k
number_alike n k b c x y fits first second same =
    printed_alike n k fits (ap head_of
    (sym (first_number n b x first) ∙ ap (slice_split is_break) same ∙ first_number k c y second))

-- the rest of a line `cookie`, behind its number, begins with a space or a line end
record Broken (rest : List ℕ) : Type 0 where
  byte : ℕ
  more : List ℕ
  breaks : is_break byte ≡ true
  is : rest ≡ byte ∷ more

epoch_breaks : (epoch : ℕ) (x : List ℕ) → Broken (epoch_text epoch ++ x)
epoch_breaks epoch x = go (epoch == 0)
  where
    go : (t : Bool)
        → Broken ((if t then codes "\n" else numbered_text (codes " epoch ") epoch) ++ x)
    go true = record { byte = 10; more = x; breaks = refl; is = refl }
    go false = record { byte = 32; more = _; breaks = refl; is = refl }

-- equal ends of lines are of one epoch
epoch_alike : (e f : ℕ) (x y : List ℕ) → f < 2 ^ 64 → epoch_text e ++ x ≡ epoch_text f ++ y → e ≡ f
epoch_alike e f x y fits same = go (e == 0) (f == 0) refl refl same
  where
    told : ℕ → Bool → List ℕ
    told n t = if t then codes "\n" else numbered_text (codes " epoch ") n

    go : (s t : Bool) → (e == 0) ≡ s → (f == 0) ≡ t → told e s ++ x ≡ told f t ++ y → e ≡ f
    go true true p q same = eqb-true e 0 p ∙ sym (eqb-true f 0 q)
    go true false p q same = cc
    go false true p q same = cc
    go false false p q same =
        number_alike e f 10 10 x y fits refl refl
        (sym (append_assoc (decimal e) (codes "\n") x)
        ∙ append_cancel_left (codes " epoch ") _ _ same ∙ append_assoc (decimal f) (codes "\n") y)

cookie_alike : (c d : Cookie) (x y : List ℕ) → d.number < 2 ^ 64 → d.epoch < 2 ^ 64
    → text_of (reply.Cookie c) ++ x ≡ text_of (reply.Cookie d) ++ y → c ≡ d
cookie_alike c d x y fits fits_too same =
    let a = epoch_breaks c.epoch x in
    let b = epoch_breaks d.epoch y in
    let behind : decimal c.number ++ (epoch_text c.epoch ++ x)
    ≡ decimal d.number ++ (epoch_text d.epoch ++ y) =
    sym (append_assoc (decimal c.number) (epoch_text c.epoch) x)
    ∙ append_cancel_left (codes "cookie ") _ _ same
    ∙ append_assoc (decimal d.number) (epoch_text d.epoch) y in
    let number : c.number ≡ d.number =
    number_alike c.number d.number a.byte b.byte a.more b.more fits a.breaks b.breaks
    (ap (λ (l : List ℕ). decimal c.number ++ l) (sym a.is) ∙ behind
    ∙ ap (λ (l : List ℕ). decimal d.number ++ l) b.is) in
    let rest : epoch_text c.epoch ++ x ≡ epoch_text d.epoch ++ y =
    append_cancel_left (decimal d.number) _ _
    (ap (λ (n : ℕ). decimal n ++ (epoch_text c.epoch ++ x)) (sym number) ∙ behind) in
    let epoch : c.epoch ≡ d.epoch = epoch_alike c.epoch d.epoch x y fits_too rest in
    rw (number, epoch) refl

-- ---- the run behind the answers

cookie_told : (size : Size) (h : History) (e : Event) (r : Reply)
    → takes e ≡ true → IsLegalReply size (situation h) e r → (c : Cookie) × (r ≡ reply.Cookie c)
cookie_told size h Take r t (inl is) = (_, is)
cookie_told size h Take r t (inr want) = absurd (cc)
cookie_told size h StartPoll r t (inl is) = (_, is)
cookie_told size h StartPoll r t (inr want) = absurd (cc)
cookie_told size h _ r t l = absurd (cc)

done_told : (size : Size) (h : History) (number epoch : ℕ) (r : Reply) (x : List ℕ) → x ≡ []
    → IsLegalReply size (situation h) (Poll number epoch) r
    → text_of (reply.Polled true) ≡ text_of r ++ x → r ≡ reply.Polled true
done_told size h number epoch r x none (inl is) text = is ∙ go _ (text ∙ rw (is, none) refl)
  where
    go : (t : Bool) → text_of (reply.Polled true) ≡ text_of (reply.Polled t) ++ []
        → reply.Polled t ≡ reply.Polled true
    go true e = refl
    go false e = cc
done_told size h number epoch r x none (inr want) text = absurd (cc)

-- a legal run that takes a cookie after one history and polls it after another one, and finds it
-- done
pub record DoneRun (size : Size) (event : Event) (cookie : Cookie)
    (at_taking at_poll : History) : Type 0 where
  pub earlier : Run
  pub later : Run
  pub legal : IsLegalRun size
      ((Poll cookie.number cookie.epoch, reply.Polled true) ∷ later ++ (event, reply.Cookie cookie)
      ∷ earlier)
  pub taken : history earlier ≡ at_taking
  pub polled : history (later ++ (event, reply.Cookie cookie) ∷ earlier) ≡ at_poll

pub asked_line : (size : Size) (h : History) (line : List ℕ) (event : Event) (text : List ℕ)
    (next : History)
    → asked_by line ≡ Ask event
    → AnswersLine size h (asked_by line) text next
    → AnswersLine size h (Ask event) text next
asked_line size h line event text next asks a =
    subst (λ (l : Line Event). AnswersLine size h l text next) asks a

pub done_run : (size : Size) (before between : List (List ℕ)) (taking polling told more : List ℕ)
    (event : Event) (cookie : Cookie) (at_taking at_poll end : History)
    → Answers size [] before told at_taking
    → asked_by taking ≡ Ask event
    → takes event ≡ true
    → Answers size at_taking (taking ∷ between) (text_of (reply.Cookie cookie) ++ more) at_poll
    → asked_by polling ≡ Ask (Poll cookie.number cookie.epoch)
    → Answers size at_poll (polling ∷ []) (text_of (reply.Polled true)) end
    → DoneRun size event cookie at_taking at_poll
done_run size before between taking polling told more event cookie at_taking at_poll end first
    asks t second polls third =
    let start = lines_from_first size before told at_taking first in
    let took = asked_line size at_taking taking event second.0 second.1 asks second.3 in
    let said = cookie_told size at_taking event took.0 t took.1 in
    let fits = polled_fits polling (Poll cookie.number cookie.epoch) polls in
    let same : said.0 ≡ cookie =
    cookie_alike said.0 cookie second.2 more fits.0 fits.1
    (ap (λ (r : Reply). text_of r ++ second.2) (sym said.1)
    ∙ ap (λ (l : List ℕ). l ++ second.2) (sym took.2) ∙ sym second.4) in
    let is : took.0 ≡ reply.Cookie cookie =
    said.1 ∙ ap (λ (c : Cookie). reply.Cookie c) same in
    let taken : Run = (event, reply.Cookie cookie) ∷ start.run in
    let legal : IsLegalRun size taken = (rw (start.reached, ← is) took.1, start.legal) in
    let reached : history taken ≡ second.1 =
    ap (λ (h : History). with_event h event (reply.Cookie cookie)) start.reached
    ∙ ap (with_event at_taking event) (sym is) ∙ sym took.3 in
    let on = lines_further size taken second.1 at_poll between second.2 legal reached second.5 in
    let poll =
    asked_line size at_poll polling (Poll cookie.number cookie.epoch) third.0 third.1 polls
    third.3 in
    let done =
    done_told size at_poll cookie.number cookie.epoch poll.0 third.2 third.5.0 poll.1
    (third.4 ∙ ap (λ (l : List ℕ). l ++ third.2) poll.2) in
    record {
      earlier = start.run;
      later = on.later;
      legal = (rw (on.reached, ← done) poll.1, on.legal);
      taken = start.reached;
      polled = on.reached;
    }
