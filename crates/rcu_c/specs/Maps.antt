-- The map of an engine, in its writer's knowledge and as a seat's section reads it.
use Rattle.std.specs.Prelude.{◌≡◌, ◌≢◌, ◌≤◌, ◌<◌, ◌==◌, ◌^◌, ℕ, if◌then◌else◌, IfNone, IsSome, List}
use Rattle.std.specs.Prelude.{Option, Some, None, Result, Ok, Err, length, nat_lt}
use Rattle.rcu_seq.specs.Numbers.{Number, snapshot}
use Rattle.rcu_seq.specs.declared.cookie.Cookie.{Cookie}
use Rattle.rcu_seq.specs.declared.fault.Fault.TheVariants.{InSection}
use Rattle.rcu_live.specs.CpuSeat.{after_word_step, exit_refusal}
use Rattle.rcu_live.specs.Drive.{after_drive, drive_refusal, wants_for}
use Rattle.rcu_live.specs.Engine.{latest_words}
use Rattle.rcu_live.specs.Watcher.{Watching}
use Rattle.rcu_graph.specs.Beside.{Moment}
use Rattle.rcu_graph.specs.Graph.{IsOfSameGraph}
use Rattle.rcu_graph.specs.Writer.{after_look}
use Rattle.rcu_graph.specs.Nodes.{nodes_in}
use Rattle.rcu_graph.specs.Tended.{AreAllUsed}
use Rattle.rcu_graph.specs.declared.writer.Full.{Full}
use Rattle.rcu_graph.specs.declared.known.Known.{Known}
use Rattle.rcu_graph.specs.declared.known.Node.{Node}
use Rattle.rcu_graph.specs.declared.known.Planned.{Planned}
use Rattle.rcu_graph.specs.declared.plan.Plan.{Plan}
use Rattle.rcu_map.specs.After.{IsNextAfter}
use Rattle.rcu_map.specs.Chains.{buckets_in}
use Rattle.rcu_map.specs.Entries.{AreSameEntries, IsRemoved}
use Rattle.rcu_map.specs.Found.{IsGot}
use Rattle.rcu_map.specs.Keys.{key_in}
use Rattle.rcu_map.specs.Puts.{HasAnswered, HasChanged, Holds}
use Rattle.rcu_map.specs.Words.{as_words}
use Rattle.rcu_map.specs.declared.put.Put.{Put}
use Rattle.rcu_c.specs.Answers.{cookie_in_c, number_for}
use Rattle.rcu_c.specs.Holding.{cpu_of, engine_of, grace_of, on_cpu, on_engine, on_opened, seat_of}
use Rattle.rcu_c.specs.Holding.{writer_of}
use Rattle.rcu_c.specs.MapEntries.{IsKeyed, told}
use Rattle.rcu_c.specs.Refusals.{by_engine, first_of, if_own}
use Rattle.rcu_c.specs.declared.contents.Contents.{Contents}
use Rattle.rcu_c.specs.declared.refusal.Refusal.{Refusal}
use Rattle.rcu_c.specs.declared.refusal.Refusal.TheVariants.{BadKey, BadWords}

-- the nodes known to the writer of an engine's map, and how many of them are buckets
abbrev pub map_nodes : Option Contents → List Node
map_nodes h = nodes_in (writer_of h).view.client.known

abbrev pub map_buckets : Option Contents → ℕ
map_buckets h = buckets_in (writer_of h)

-- an engine's handle with the knowledge of its map's writer changed
abbrev pub on_writer : (Watching Planned → Watching Planned) → Option Contents → Option Contents
on_writer change = on_opened (λ o. record o { map = change o.map })

-- why a buffer of this number of words is refused for an entry, which has that many: the numbers
-- differ
abbrev pub width_refusal : ℕ → ℕ → Option Refusal
width_refusal words room = if room == words then None else Some BadWords

-- why an entry of a key is not taken: the key is 0
abbrev pub key_refusal : ℕ → Option Refusal
key_refusal key = if key == 0 then Some BadKey else None

-- how many words an entry has in the writer's map
abbrev pub writer_width : Option Contents → ℕ
writer_width h = (writer_of h).view.client.plan.words

-- why these words are not put in, with a buffer of this number of words: they, or the buffer, are
-- not as many as an entry has; their key is 0
abbrev pub entry_refusal : Option Contents → List ℕ → ℕ → Option Refusal
entry_refusal h entry room =
    first_of (width_refusal (writer_width h) (length entry))
    (first_of (width_refusal (writer_width h) room) (key_refusal (key_in entry)))

-- the entry of these words has the key, or none has it
abbrev pub HoldsEntry : Option Contents → ℕ → Option (List ℕ) → Type 0
HoldsEntry h key = Holds as_words IsKeyed key_in (map_buckets h) (map_nodes h) key

-- the writer had to put an entry in, and these are its result and its effect: nothing else of the
-- engine changed
pub record HasPutInC (how : Put) (entry : List ℕ) (h : Option Contents)
    (result : Result (Option (List ℕ)) Full) (now : Option Contents) : Type 0 where
  pub state : now ≡ on_writer (λ _. writer_of now) h
  pub answered : HasAnswered as_words IsKeyed key_in how (key_in entry) entry (writer_of h) result
      (writer_of now)

-- the writer did so, and the buffer of C shows the entry that had the key
pub record IsPutInC (how : Put) (entry : List ℕ) (h : Option Contents) (room old : List ℕ)
    (now : Option Contents) : Type 0 where
  pub had : Option (List ℕ)
  pub is_told : old ≡ told room had
  pub by : HasPutInC how entry h (Ok had) now

-- an entry that may be put in needs a node, and none is free
pub record IsNotPutInC (how : Put) (entry : List ℕ) (room : ℕ) (h now : Option Contents) : Type 0
  where
    pub taken : entry_refusal h entry room ≡ None
    pub full : Full
    pub by : HasPutInC how entry h (Err full) now

-- the entry of a key was removed, if there was one, and the buffer of C shows it: nothing else of
-- the engine changed
pub record IsTakenOutInC (key : ℕ) (h : Option Contents) (room old : List ℕ)
    (now : Option Contents) : Type 0 where
  pub had : Option (List ℕ)
  pub is_told : old ≡ told room had
  pub state : now ≡ on_writer (λ _. writer_of now) h
  pub same : IsOfSameGraph (writer_of h) (writer_of now)
  pub holds : HoldsEntry h key had
  pub removed : IsSome had → HasChanged (λ before after. IsRemoved (map_buckets h) before key after)
      (writer_of h) (writer_of now)
  pub unchanged : IfNone had (writer_of now ≡ writer_of h)

-- the buffer of C shows the entry of a key, if there is one
pub record IsFoundInC (key : ℕ) (h : Option Contents) (room entry : List ℕ) : Type 0 where
  pub found : Option (List ℕ)
  pub is_told : entry ≡ told room found
  pub holds : HoldsEntry h key found

-- the writer loaded a number, which is at least all that it saw before: unlinked nodes were retired
-- at it, and nodes that were retired a full grace period before it are free. C got the cookie of
-- that number
pub record HasReclaimedInC (h : Option Contents) (cookie : ℕ) (now : Option Contents) : Type 0 where
  pub number : Number
  pub state : now ≡ on_writer (λ k. after_look k number) h
  pub later : (writer_of h).view.seen ≤ number
  pub bounded : number ≤ 2 ^ 62
  pub cookie_of : cookie ≡ snapshot number
  pub entries : AreSameEntries (map_buckets h) (map_nodes h) (map_nodes now)

-- the engine of a handle took a step of driving for this cookie, or refused it, and returned this
pub record HasDrivenFor (cookie : Cookie) (h : Option Contents) (result : ℕ)
    (now : Option Contents) : Type 0 where
  pub fault : result
      ≡ number_for (drive_refusal (grace_of h) (wants_for cookie (grace_of h)))
  pub state : result ≡ 0 → now
      ≡ on_engine (λ e. after_drive e (wants_for cookie e.grace) (latest_words (engine_of now))) h
  pub unchanged : result ≢ 0 → now ≡ h

-- the writer loaded a number. If a node was free then, that was all; otherwise the engine took a
-- step of driving for the cookie of that number
pub record HasWaitedInC (h : Option Contents) (result : ℕ) (now : Option Contents) : Type 0 where
  pub cookie : ℕ
  pub looked : Option Contents
  pub look : HasReclaimedInC h cookie looked
  pub at_once : ¬ AreAllUsed (map_nodes looked) → (result ≡ 0) × (now ≡ looked)
  pub driven : AreAllUsed (map_nodes looked) → HasDrivenFor (cookie_in_c cookie) looked result now

-- why the thread of a seat does not wait for a free node: the handles are not those of an engine
-- and of a seat of it; a section is open on the seat, for which it would wait
abbrev pub waiting_refusal : Option Contents → Option Contents → Option Refusal
waiting_refusal rcu seat =
    if_own rcu seat (if nat_lt 0 (cpu_of seat).depth then Some InSection else None)

-- the knowledge of a seat's section
abbrev pub known_of : Option Contents → Known
known_of h = (cpu_of h).view.client.known

-- the size of the map that the seat reads
abbrev pub map_plan : Option Contents → Plan
map_plan h = (seat_of h).words.plan

-- the section of a seat went on among the nodes, with this knowledge: nothing else of the seat
-- changed
abbrev pub HasWalked : Option Contents → Option Contents → Type 0
HasWalked h now = now ≡ on_cpu (λ s. after_word_step s (cpu_of now).view.client) h

-- why the map is not read into a buffer of this number of words: no section is open; an entry has
-- another number of words
abbrev pub reading_refusal : Option Contents → ℕ → Option Refusal
reading_refusal h room =
    first_of (by_engine (exit_refusal (cpu_of h))) (width_refusal (map_plan h).words room)

-- the section looked a key up, and the buffer of C shows the entry that it found
pub record IsGotInC (key : ℕ) (h : Option Contents) (room entry : List ℕ)
    (now : Option Contents) : Type 0 where
  pub found : Option (List ℕ)
  pub is_told : entry ≡ told room found
  pub none : key ≡ 0 → found ≡ None
  pub got : 0 < key → IsGot IsKeyed as_words (map_plan h).roots (map_plan h).seed key (known_of h)
      found (known_of now)

-- the section went from a key to the next entry behind it, and the buffer of C shows that
pub record IsNextInC (key : ℕ) (h : Option Contents) (room entry : List ℕ)
    (now : Option Contents) : Type 0 where
  pub found : Option (List ℕ)
  pub is_told : entry ≡ told room found
  pub next : IsNextAfter IsKeyed as_words (map_plan h).roots (map_plan h).seed key (known_of h)
      found (known_of now)

-- between two moments of a run of the words of a map of this plan, a section looked a key up, and
-- the buffer of C, which is for an entry's words, shows this entry
pub record IsGotBetween (plan : Plan) (key : ℕ) (first last : Moment) (h : Option Contents)
    (room entry : List ℕ) (now : Option Contents) : Type 0 where
  pub planned : map_plan h ≡ plan
  pub begins : known_of h ≡ first.section
  pub ends : known_of now ≡ last.section
  pub sized : length room ≡ plan.words
  pub got : IsGotInC key h room entry now

-- between two such moments a section went on from a key, and the buffer of C shows this entry
pub record IsNextBetween (plan : Plan) (key : ℕ) (first last : Moment) (h : Option Contents)
    (room entry : List ℕ) (now : Option Contents) : Type 0 where
  pub planned : map_plan h ≡ plan
  pub begins : known_of h ≡ first.section
  pub ends : known_of now ≡ last.section
  pub next : IsNextInC key h room entry now
