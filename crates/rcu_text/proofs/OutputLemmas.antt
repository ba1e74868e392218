-- Outputs, one text after another.
use Rattle.std.proofs.Common.{◌≡◌, ◌+◌, ◌<◌, ℕ, List, [], ◌∷◌, ◌++◌, length, take, drop, refl, sym}
use Rattle.std.proofs.Common.{ap, ap₂, ◌∙◌, append_assoc, append-nil, take-append-drop, subst}
use Rattle.std.proofs.Common.{arith, get_or, length-append}
use Rattle.std.specs.Prelude.{flat_map, OnOk, Result, Ok, Err}
use Rattle.std.specs.Io.KnownBytes.{Appends}
use Rattle.std.proofs.KnownBytes.{Appends-nil, Appends-trans}
use Rattle.std.proofs.lemmas.Grind.{flat_map-append}
use Rattle.std.proofs.lemmas.List.{take_more}
use Rattle.rcu_text.specs.Outputs.{Out, Puts, Sends, Stops, after_put_text}
use Rattle.rcu_text.specs.Streams.{BreaksOff, Takes, Writes}

-- nothing is sent by doing nothing
pub Sends-nil : (o : Out) → Sends o o []
Sends-nil o = record {
  front = [];
  out = Appends-nil o.writer.taken;
  whole = append-nil o.waiting;
  sound = refl;
  same = refl;
}

-- one text is sent behind another
pub Sends-trans : (a b c : Out) (first second : List ℕ) → Sends a b first → Sends b c second
    → Sends a c (first ++ second)
Sends-trans a b c first second p q = record {
  front = p.front ++ q.front;
  out = Appends-trans a.writer.taken b.writer.taken c.writer.taken p.front q.front p.out q.out;
  whole = sym (append_assoc a.waiting first second) ∙ ap (λ (l : List ℕ). l ++ second) p.whole
      ∙ append_assoc p.front b.waiting second
      ∙ ap (λ (l : List ℕ). p.front ++ l) q.whole ∙ sym (append_assoc p.front q.front c.waiting);
  sound = q.sound ∙ p.sound;
  same = q.same ∙ p.same;
}

-- the writer failed in a text behind one that was sent
pub Sends-Stops : (a b c : Out) (first second : List ℕ) → Sends a b first → Stops b c second
    → Stops a c (first ++ second)
Sends-Stops a b c first second p q = record {
  front = p.front ++ q.front;
  left = q.left;
  out = Appends-trans a.writer.taken b.writer.taken c.writer.taken p.front q.front p.out q.out;
  whole = sym (append_assoc a.waiting first second) ∙ ap (λ (l : List ℕ). l ++ second) p.whole
      ∙ append_assoc p.front b.waiting second
      ∙ ap (λ (l : List ℕ). p.front ++ l) q.whole ∙ sym (append_assoc p.front q.front q.left);
  failed = q.failed;
  same = q.same ∙ p.same;
}

-- the writer failed in a text, and so in all that begins with it
pub Stops-before : (a b : Out) (text later : List ℕ) → Stops a b text → Stops a b (text ++ later)
Stops-before a b text later p = record {
  front = p.front;
  left = p.left ++ later;
  out = p.out;
  whole = sym (append_assoc a.waiting text later) ∙ ap (λ (l : List ℕ). l ++ later) p.whole
      ∙ append_assoc p.front p.left later;
  failed = p.failed;
  same = p.same;
}

-- if no byte is buffered before and after, the writer took the text that is sent
pub Sends-taken : (a b : Out) (text : List ℕ) → a.waiting ≡ [] → b.waiting ≡ [] → Sends a b text
    → Appends a.writer.taken b.writer.taken text
Sends-taken a b text before after p =
    let all : text ≡ p.front = ap (λ (l : List ℕ). l ++ text) (sym before) ∙ p.whole
    ∙ ap (λ (l : List ℕ). p.front ++ l) after ∙ append-nil p.front in
    subst (Appends a.writer.taken b.writer.taken) (sym all) p.out

-- if no byte is buffered before, the writer took a prefix of the text that it stopped in
pub Stops-taken : (a b : Out) (text : List ℕ) → a.waiting ≡ [] → (s : Stops a b text)
    → text ≡ s.front ++ s.left
Stops-taken a b text before s = ap (λ (l : List ℕ). l ++ text) (sym before) ∙ s.whole

-- so the writer took a text that was sent
pub Sends-Takes : (a b : Out) (text : List ℕ) → a.waiting ≡ [] → b.waiting ≡ [] → Sends a b text
    → Takes a.writer b.writer text
Sends-Takes a b text before after p = record {
  out = Sends-taken a b text before after p;
  sound = p.sound;
}

-- and broke off in a text that it stopped in
pub Stops-BreaksOff : (a b : Out) (text : List ℕ) → a.waiting ≡ [] → Stops a b text
    → BreaksOff a.writer b.writer text
Stops-BreaksOff a b text before s = record {
  front = s.front;
  left = s.left;
  whole = Stops-taken a b text before s;
  out = s.out;
  failed = s.failed;
}

-- a text that was sent through an output is written once all that waits is
pub writes_flushed : {X E : Type 0} (r : Result X E) (a b c : Out) (text : List ℕ)
    → a.waiting ≡ [] → Sends a b text → Puts r b c [] → OnOk r (c.waiting ≡ [])
    → Writes r a.writer c.writer text
writes_flushed (Ok x) a b c text before s p after =
    Sends-Takes a c text before after
    (subst (Sends a c) (append-nil text) (Sends-trans a b c text [] s p))
writes_flushed (Err e) a b c text before s p after =
    Stops-BreaksOff a c text before
    (subst (Stops a c) (append-nil text) (Sends-Stops a b c text [] s p))

-- a text was put behind one that was sent
pub puts_two : {X E : Type 0} (r : Result X E) (a b c : Out) (first second : List ℕ)
    → Sends a b first → Puts r b c second → Puts r a c (first ++ second)
puts_two (Ok x) a b c first second s p = Sends-trans a b c first second s p
puts_two (Err e) a b c first second s p = Sends-Stops a b c first second s p

-- ---- texts that wait

-- a text waits
pub waits : (o : Out) (text : List ℕ) → Sends o (after_put_text o text) text
waits o text = record {
  front = [];
  out = Appends-nil o.writer.taken;
  whole = refl;
  sound = refl;
  same = refl;
}

-- two texts wait, one behind the other
pub put_twice : (o : Out) (first second : List ℕ)
    → after_put_text (after_put_text o first) second ≡ after_put_text o (first ++ second)
put_twice o first second =
    let l = length-append first second in
    ap₂ (λ (w : List ℕ) (r : ℕ). record o { waiting = w; room = r })
    (append_assoc o.waiting first second) (omega arith)

-- once room was made, a text was put
pub sends_behind : (a b c : Out) (text : List ℕ) → Sends a b [] → c ≡ after_put_text b text
    → Sends a c text
sends_behind a b c text s e =
    subst (λ (o : Out). Sends a o text) (sym e)
    (Sends-trans a b (after_put_text b text) [] text s (waits b text))

-- ---- texts of items

module _ {X : Type 0} (text : X → List ℕ) where
  texts_next : (xs : List X) (i : ℕ) (d : X) → i < length xs
      → flat_map text (take (i + 1) xs) ≡ flat_map text (take i xs) ++ text (get_or xs i d)
  texts_next xs i d lt =
      ap (flat_map text) (take_more xs i d lt)
      ∙ flat_map-append text (take i xs) (get_or xs i d ∷ [])
      ∙ ap (λ (l : List ℕ). flat_map text (take i xs) ++ l) (append-nil (text (get_or xs i d)))

  texts_whole : (xs : List X) (i : ℕ)
      → flat_map text xs ≡ flat_map text (take i xs) ++ flat_map text (drop i xs)
  texts_whole xs i =
      ap (flat_map text) (sym (take-append-drop i xs))
      ∙ flat_map-append text (take i xs) (drop i xs)

  -- the text of one item more is sent
  pub item_sent : (a b c : Out) (xs : List X) (i : ℕ) (d : X) → i < length xs
      → Sends a b (flat_map text (take i xs)) → Sends b c (text (get_or xs i d))
      → Sends a c (flat_map text (take (i + 1) xs))
  item_sent a b c xs i d lt s t =
      subst (Sends a c) (sym (texts_next xs i d lt)) (Sends-trans a b c _ _ s t)

  -- the writer failed in the text of an item
  pub item_stops : (a b c : Out) (xs : List X) (i : ℕ) (d : X)
      → i < length xs → Sends a b (flat_map text (take i xs)) → Stops b c (text (get_or xs i d))
      → Stops a c (flat_map text xs)
  item_stops a b c xs i d lt s t =
      subst (Stops a c) (sym (texts_whole xs (i + 1)))
      (Stops-before a c (flat_map text (take (i + 1) xs)) (flat_map text (drop (i + 1) xs))
      (subst (Stops a c) (sym (texts_next xs i d lt)) (Sends-Stops a b c _ _ s t)))

-- the writer failed while room was made for a text
pub stops_before_text : (a b : Out) (text : List ℕ) → Stops a b [] → Stops a b text
stops_before_text a b text s = Stops-before a b [] text s

-- ---- a list between its name and the end of the line

-- the writer failed in the items
pub list_stops : (a b c : Out) (name items later : List ℕ) → Sends a b name → Stops b c items
    → Stops a c (name ++ (items ++ later))
list_stops a b c name items later s t =
    subst (Stops a c) (append_assoc name items later)
    (Stops-before a c (name ++ items) later (Sends-Stops a b c name items s t))

-- all was put
pub list_put : {X E : Type 0} (r : Result X E) (a b c d : Out) (name items later : List ℕ)
    → Sends a b name → Sends b c items → Puts r c d later → Puts r a d (name ++ (items ++ later))
list_put r a b c d name items later s t p =
    subst (Puts r a d) (append_assoc name items later)
    (puts_two r a c d (name ++ items) later (Sends-trans a b c name items s t) p)
