-- Nodes made of rows: if one cell changes, one node does.
use Rattle.std.proofs.Common.{◌≡◌, ℕ, zero, suc, ◌+◌, ◌*◌, ◌<◌, ◌≤◌, List, [], ◌∷◌, ◌++◌, length}
use Rattle.std.proofs.Common.{get_or, map, set, take, drop, replicate, refl, sym, ap, ◌∙◌, arith}
use Rattle.std.specs.Prelude.{slice_index}
use Rattle.std.proofs.lemmas.List.{drop-set-lt, drop-set-add, get_or-drop, set-get_or, take-set-le}
use Rattle.std.proofs.Math.Seq.{take-set-lt}
use Rattle.rcu_graph.specs.Mirror.{nodes_of, with_words, with_words_to}
use Rattle.rcu_graph.specs.Nodes.{in_state, linked_to, no_node, node_at, reclaimed, reclaimed_state}
use Rattle.rcu_graph.specs.Nodes.{renewed, worded}
use Rattle.rcu_graph.specs.declared.known.Node.{Node}
use Rattle.rcu_graph.specs.declared.node_state.NodeState.{NodeState}
use Rattle.rcu_graph.specs.declared.node_state.NodeState.TheVariants.{Free}

-- a node of these parts
abbrev pub made : NodeState → List ℕ → List ℕ → Node
made state links words = record { state = state; links = links; words = words }

-- two cells of a row of rows further on
further : (row i k : ℕ) → row * suc i + k ≡ row + (row * i + k)
further row i k = grind arith

none : (row k : ℕ) → row * 0 + k ≡ k
none row k = grind arith

-- inside a list the default makes no difference
pub no_default : {A : Type 0} (l : List A) (i : ℕ) (d e : A) → i < length l
    → get_or l i d ≡ get_or l i e
no_default [] i d e low = absurd (omega (arith, low))
no_default (x ∷ xs) zero d e low = refl
no_default (x ∷ xs) (suc i) d e low = no_default xs i d e (omega (arith, low))

pub length-nodes_of : (links width : ℕ) (states : List NodeState) (cells words : List ℕ)
    → length (nodes_of links width states cells words) ≡ length states
length-nodes_of links width [] cells words = refl
length-nodes_of links width (s ∷ states) cells words =
    ap suc (length-nodes_of links width states (drop links cells) (drop width words))

pub state_of : (links width : ℕ) (states : List NodeState) (cells words : List ℕ) (i : ℕ)
    → (node_at (nodes_of links width states cells words) i).state ≡ get_or states i Free
state_of links width [] cells words i = refl
state_of links width (s ∷ states) cells words zero = refl
state_of links width (s ∷ states) cells words (suc i) =
    state_of links width states (drop links cells) (drop width words) i

get_or-take : (n : ℕ) (l : List ℕ) (i d : ℕ) → i < n → get_or (take n l) i d ≡ get_or l i d
get_or-take zero l i d low = absurd (omega (arith, low))
get_or-take (suc n) [] i d low = refl
get_or-take (suc n) (x ∷ xs) zero d low = refl
get_or-take (suc n) (x ∷ xs) (suc i) d low = get_or-take n xs i d (omega (arith, low))

pub link_of : (links width : ℕ) (states : List NodeState) (cells words : List ℕ) (i l : ℕ)
    → i < length states
    → l < links
    → slice_index (node_at (nodes_of links width states cells words) i).links l
    ≡ slice_index cells (links * i + l)
link_of links width [] cells words i l low inside = absurd (omega (arith, low))
link_of links width (s ∷ states) cells words zero l low inside =
    get_or-take links cells l 0 inside ∙ ap (λ (n : ℕ). get_or cells n 0) (sym (none links l))
link_of links width (s ∷ states) cells words (suc i) l low inside =
    link_of links width states (drop links cells) (drop width words) i l (omega (arith, low)) inside
    ∙ (get_or-drop links cells (links * i + l) 0
    ∙ ap (λ (n : ℕ). get_or cells n 0) (sym (further links i l)))

pub word_of : (links width : ℕ) (states : List NodeState) (cells words : List ℕ) (i k : ℕ)
    → i < length states
    → k < width
    → slice_index (node_at (nodes_of links width states cells words) i).words k
    ≡ slice_index words (width * i + k)
word_of links width [] cells words i k low inside = absurd (omega (arith, low))
word_of links width (s ∷ states) cells words zero k low inside =
    get_or-take width words k 0 inside ∙ ap (λ (n : ℕ). get_or words n 0) (sym (none width k))
word_of links width (s ∷ states) cells words (suc i) k low inside =
    word_of links width states (drop links cells) (drop width words) i k (omega (arith, low)) inside
    ∙ (get_or-drop width words (width * i + k) 0
    ∙ ap (λ (n : ℕ). get_or words n 0) (sym (further width i k)))

pub state_set : (links width : ℕ) (states : List NodeState) (cells words : List ℕ) (i : ℕ)
    (x : NodeState)
    → nodes_of links width (set states i x) cells words
    ≡ renewed (nodes_of links width states cells words) i (in_state x)
state_set links width [] cells words i x = refl
state_set links width (s ∷ states) cells words zero x = refl
state_set links width (s ∷ states) cells words (suc i) x =
    ap (λ (l : List Node). made s (take links cells) (take width words) ∷ l)
    (state_set links width states (drop links cells) (drop width words) i x)

pub link_set : (links width : ℕ) (states : List NodeState) (cells words : List ℕ) (i l x : ℕ)
    → i < length states
    → l < links
    → nodes_of links width states (set cells (links * i + l) x) words
    ≡ renewed (nodes_of links width states cells words) i (linked_to l x)
link_set links width [] cells words i l x low inside = absurd (omega (arith, low))
link_set links width (s ∷ states) cells words zero l x low inside =
    ap (λ (n : ℕ). nodes_of links width (s ∷ states) (set cells n x) words) (none links l)
    ∙ (ap (λ (c : List ℕ).
    made s c (take width words)
    ∷ nodes_of links width states (drop links (set cells l x)) (drop width words))
    (take-set-lt links cells l x inside)
    ∙ ap (λ (c : List ℕ).
    made s (set (take links cells) l x) (take width words)
    ∷ nodes_of links width states c (drop width words))
    (drop-set-lt links cells l x inside))
link_set links width (s ∷ states) cells words (suc i) l x low inside =
    let p : ℕ = links * i + l in
    ap (λ (n : ℕ). nodes_of links width (s ∷ states) (set cells n x) words) (further links i l)
    ∙ (ap (λ (c : List ℕ).
    made s c (take width words)
    ∷ nodes_of links width states (drop links (set cells (links + p) x)) (drop width words))
    (take-set-le links cells (links + p) x (omega arith))
    ∙ (ap (λ (c : List ℕ).
    made s (take links cells) (take width words) ∷ nodes_of links width states c (drop width words))
    (drop-set-add links cells p x)
    ∙ ap (λ (t : List Node). made s (take links cells) (take width words) ∷ t)
    (link_set links width states (drop links cells) (drop width words) i l x (omega (arith, low))
    inside)))

pub word_set : (links width : ℕ) (states : List NodeState) (cells words : List ℕ) (i k x : ℕ)
    → i < length states
    → k < width
    → nodes_of links width states cells (set words (width * i + k) x)
    ≡ renewed (nodes_of links width states cells words) i (worded k x)
word_set links width [] cells words i k x low inside = absurd (omega (arith, low))
word_set links width (s ∷ states) cells words zero k x low inside =
    ap (λ (n : ℕ). nodes_of links width (s ∷ states) cells (set words n x)) (none width k)
    ∙ (ap (λ (c : List ℕ).
    made s (take links cells) c
    ∷ nodes_of links width states (drop links cells) (drop width (set words k x)))
    (take-set-lt width words k x inside)
    ∙ ap (λ (c : List ℕ).
    made s (take links cells) (set (take width words) k x)
    ∷ nodes_of links width states (drop links cells) c)
    (drop-set-lt width words k x inside))
word_set links width (s ∷ states) cells words (suc i) k x low inside =
    let p : ℕ = width * i + k in
    ap (λ (n : ℕ). nodes_of links width (s ∷ states) cells (set words n x)) (further width i k)
    ∙ (ap (λ (c : List ℕ).
    made s (take links cells) c
    ∷ nodes_of links width states (drop links cells) (drop width (set words (width + p) x)))
    (take-set-le width words (width + p) x (omega arith))
    ∙ (ap (λ (c : List ℕ).
    made s (take links cells) (take width words) ∷ nodes_of links width states (drop links cells) c)
    (drop-set-add width words p x)
    ∙ ap (λ (t : List Node). made s (take links cells) (take width words) ∷ t)
    (word_set links width states (drop links cells) (drop width words) i k x (omega (arith, low))
    inside)))

next : (n m : ℕ) → suc n + m ≡ suc (n + m)
next n m = omega arith

first : (m : ℕ) → 0 + m ≡ m
first m = omega arith

take_zeros : (n m : ℕ) → take n (replicate {A = ℕ} (n + m) 0) ≡ replicate {A = ℕ} n 0
take_zeros zero m = refl
take_zeros (suc n) m =
    ap (λ (c : ℕ). take {A = ℕ} (suc n) (replicate {A = ℕ} c 0)) (next n m)
    ∙ ap (λ (l : List ℕ). 0 ∷ l) (take_zeros n m)

drop_zeros : (n m : ℕ) → drop n (replicate {A = ℕ} (n + m) 0) ≡ replicate {A = ℕ} m 0
drop_zeros zero m = ap (λ (c : ℕ). replicate {A = ℕ} c 0) (first m)
drop_zeros (suc n) m =
    ap (λ (c : ℕ). drop {A = ℕ} (suc n) (replicate {A = ℕ} c 0)) (next n m) ∙ drop_zeros n m

more : (row n : ℕ) → row * suc n ≡ row + row * n
more row n = grind arith

-- this number of free nodes, whose links and words are 0
pub nodes_of_zeros : (links width count : ℕ)
    → nodes_of links width (replicate count Free) (replicate (links * count) 0)
    (replicate (width * count) 0)
    ≡ replicate count (made Free (replicate links 0) (replicate width 0))
nodes_of_zeros links width zero = refl
nodes_of_zeros links width (suc n) =
    ap (λ (c : ℕ).
    nodes_of links width (replicate (suc n) Free) (replicate c 0) (replicate (width * suc n) 0))
    (more links n)
    ∙ (ap (λ (c : ℕ).
    nodes_of links width (replicate (suc n) Free) (replicate (links + links * n) 0) (replicate c 0))
    (more width n)
    ∙ (ap (λ (c : List ℕ).
    made Free c (take width (replicate (width + width * n) 0))
    ∷ nodes_of links width (replicate n Free) (drop links (replicate (links + links * n) 0))
    (drop width (replicate (width + width * n) 0)))
    (take_zeros links (links * n))
    ∙ (ap (λ (c : List ℕ).
    made Free (replicate links 0) c
    ∷ nodes_of links width (replicate n Free) (drop links (replicate (links + links * n) 0))
    (drop width (replicate (width + width * n) 0)))
    (take_zeros width (width * n))
    ∙ (ap (λ (c : List ℕ).
    made Free (replicate links 0) (replicate width 0)
    ∷ nodes_of links width (replicate n Free) c (drop width (replicate (width + width * n) 0)))
    (drop_zeros links (links * n))
    ∙ (ap (λ (c : List ℕ).
    made Free (replicate links 0) (replicate width 0)
    ∷ nodes_of links width (replicate n Free) (replicate (links * n) 0) c)
    (drop_zeros width (width * n))
    ∙ ap (λ (l : List Node). made Free (replicate links 0) (replicate width 0) ∷ l)
    (nodes_of_zeros links width n))))))

-- a list as far as a loop has come that puts the elements of another in its place
pub mixed_more : (k : ℕ) (new old : List ℕ) → k < length new → k < length old
    → set (take k new ++ drop k old) k (get_or new k 0) ≡ take (suc k) new ++ drop (suc k) old
mixed_more k [] old low inside = absurd (omega (arith, low))
mixed_more k (x ∷ new) [] low inside = absurd (omega (arith, inside))
mixed_more zero (x ∷ new) (y ∷ old) low inside = refl
mixed_more (suc k) (x ∷ new) (y ∷ old) low inside =
    ap (λ (l : List ℕ). x ∷ l) (mixed_more k new old (omega (arith, low)) (omega (arith, inside)))

pub mixed_all : (n : ℕ) (new old : List ℕ) → length new ≡ n → length old ≡ n
    → take n new ++ drop n old ≡ new
mixed_all zero [] [] low same = refl
mixed_all zero [] (y ∷ old) low same = absurd (omega (arith, same))
mixed_all zero (x ∷ new) old low same = absurd (omega (arith, low))
mixed_all (suc n) [] old low same = absurd (omega (arith, low))
mixed_all (suc n) (x ∷ new) [] low same = absurd (omega (arith, same))
mixed_all (suc n) (x ∷ new) (y ∷ old) low same =
    ap (λ (l : List ℕ). x ∷ l) (mixed_all n new old (omega (arith, low)) (omega (arith, same)))

long_take : (n : ℕ) (l : List ℕ) → n ≤ length l → length (take n l) ≡ n
long_take zero l low = refl
long_take (suc n) [] low = absurd (omega (arith, low))
long_take (suc n) (x ∷ l) low = ap suc (long_take n l (omega (arith, low)))

long_drop : (n m : ℕ) (l : List ℕ) → length l ≡ n + m → length (drop n l) ≡ m
long_drop zero m l low = omega (arith, low)
long_drop (suc n) m [] low = absurd (omega (arith, low))
long_drop (suc n) m (x ∷ l) low = long_drop n m l (omega (arith, low))

-- each node has this number of links and words
pub sizes_of : (links width : ℕ) (states : List NodeState) (cells words : List ℕ)
    → length cells ≡ links * length states
    → length words ≡ width * length states
    → (i : ℕ) → i < length states
    → (length (node_at (nodes_of links width states cells words) i).links ≡ links)
    × (length (node_at (nodes_of links width states cells words) i).words ≡ width)
sizes_of links width [] cells words a b i low = absurd (omega (arith, low))
sizes_of links width (s ∷ states) cells words a b zero low =
    let long = a ∙ more links (length states) in
    let wide = b ∙ more width (length states) in
    (long_take links cells (omega (arith, long)), long_take width words (omega (arith, wide)))
sizes_of links width (s ∷ states) cells words a b (suc i) low =
    sizes_of links width states (drop links cells) (drop width words)
    (long_drop links (links * length states) cells (a ∙ more links (length states)))
    (long_drop width (width * length states) words (b ∙ more width (length states))) i
    (omega (arith, low))

-- two changes of one node are one change
pub renewed_twice : (nodes : List Node) (i : ℕ) (f g : Node → Node) → i < length nodes
    → renewed (renewed nodes i f) i g ≡ renewed nodes i (λ v. g (f v))
renewed_twice [] i f g low = absurd (omega (arith, low))
renewed_twice (v ∷ nodes) zero f g low = refl
renewed_twice (v ∷ nodes) (suc i) f g low =
    ap (λ (l : List Node). v ∷ l) (renewed_twice nodes i f g (omega (arith, low)))

pub no_words_yet : (nodes : List Node) (i : ℕ) (words : List ℕ)
    → nodes ≡ renewed nodes i (with_words_to 0 words)
no_words_yet nodes i words = sym (set-get_or nodes i no_node)

pub words_more : (nodes : List Node) (i k : ℕ) (words : List ℕ)
    → i < length nodes
    → k < length (node_at nodes i).words
    → k < length words
    → renewed (renewed nodes i (with_words_to k words)) i (worded k (get_or words k 0))
    ≡ renewed nodes i (with_words_to (k + 1) words)
words_more nodes i k words low inside small =
    renewed_twice nodes i (with_words_to k words) (worded k (get_or words k 0)) low
    ∙ (ap (λ (ws : List ℕ). set nodes i (made (node_at nodes i).state (node_at nodes i).links ws))
    (mixed_more k words (node_at nodes i).words small inside)
    ∙ ap (λ (n : ℕ). renewed nodes i (with_words_to n words)) (after k))
  where
    after : (k : ℕ) → suc k ≡ k + 1
    after k = omega arith

pub words_all : (nodes : List Node) (i n : ℕ) (words : List ℕ)
    → length words ≡ n → length (node_at nodes i).words ≡ n
    → renewed nodes i (with_words_to n words) ≡ renewed nodes i (with_words words)
words_all nodes i n words many size =
    ap (λ (ws : List ℕ). set nodes i (made (node_at nodes i).state (node_at nodes i).links ws))
    (mixed_all n words (node_at nodes i).words many size)

-- nodes whose states are those after a load of the number
pub reclaimed_of : (links width n : ℕ) (states : List NodeState) (cells words : List ℕ)
    → nodes_of links width (map (reclaimed_state n n) states) cells words
    ≡ reclaimed n n (nodes_of links width states cells words)
reclaimed_of links width n [] cells words = refl
reclaimed_of links width n (s ∷ states) cells words =
    ap (λ (l : List Node). made (reclaimed_state n n s) (take links cells) (take width words) ∷ l)
    (reclaimed_of links width n states (drop links cells) (drop width words))
