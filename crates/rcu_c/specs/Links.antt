-- The links that a thread defers by its seat, and the cookie that it waits for.
use Rattle.std.specs.Prelude.{ℕ, ◌==◌, if◌then◌else◌, max, unwrap_or}
use Rattle.rcu_seq.specs.Numbers.{Number}
use Rattle.rcu_defer.specs.Marks.{Marking, after_defer, after_take, after_tend, at_first, count_of}
use Rattle.rcu_defer.specs.Marks.{last_number, ready_of}
use Rattle.rcu_c.specs.declared.links.Links.{Links}

-- no link
abbrev pub no_links : Links
no_links = record { marks = at_first; first = 0; last = 0 }

-- the link that was deferred last, 0 if none is left
abbrev pub last_link : Links → ℕ
last_link l = if count_of l.marks == 0 then 0 else l.last

-- the first link if it is done, else 0
abbrev pub ready_link : Links → ℕ
ready_link l = if ready_of l.marks == 0 then 0 else l.first

-- a link was put behind all others
abbrev pub after_push : Links → ℕ → Links
after_push l link = record {
  marks = after_defer l.marks;
  first = if count_of l.marks == 0 then link else l.first;
  last = link;
}

-- the links were tended at the number
abbrev pub after_links_tend : Links → Number → Links
after_links_tend l n = record l { marks = after_tend l.marks n }

-- the first link was taken out, and this one is the first
abbrev pub after_pop : Links → ℕ → Links
after_pop l next = record l { marks = after_take l.marks 1; first = next }

-- the cookie at which all that wait by these marks are done, 1 if none waits
abbrev pub cookie_for : Marking → Marking → ℕ
cookie_for a b = max (unwrap_or (last_number a.waiting) 1) (unwrap_or (last_number b.waiting) 1)
