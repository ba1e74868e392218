-- The same steps if a section is open, at a reader's view, and at the writer's view.
use Rattle.std.proofs.Common.{◌≡◌, ℕ, suc, ◌+◌, ◌<◌, ◌≤◌, List, ◌∷◌, length, Some, None, Option}
use Rattle.std.proofs.Common.{inl, inr, sym, subst}
use Rattle.std.specs.Prelude.{IsSome}
use Rattle.rcu_live.specs.Client.{AllowsNumber, AllowsWord}
use Rattle.rcu_graph.specs.Writer.{IsReady}
use Rattle.rcu_graph.specs.Nodes.{IsKeeping, IsOn, IsReader, IsTarget, IsUnlinked, node_at}
use Rattle.rcu_graph.specs.Nodes.{nodes_in, place_of, state_at}
use Rattle.rcu_graph.specs.Rule.{IsKept}
use Rattle.rcu_graph.specs.Steps.{IsClaimed, IsFollowed, IsLinkWritten, IsLinked, IsMarkedUnlinked}
use Rattle.rcu_graph.specs.Steps.{IsPublished, IsRead, IsReclaimed, IsWritten}
use Rattle.rcu_graph.specs.declared.known.Known.{Known}
use Rattle.rcu_graph.specs.declared.known.Known.TheVariants.{Idle, Owner, Reader, Writer}
use Rattle.rcu_graph.specs.declared.node_state.NodeState.TheVariants.{Free, Live}
use Rattle.rcu_graph.proofs.Moves.{claims, follows, links_to, marks_unlinked, publishes, reads_word}
use Rattle.rcu_graph.proofs.Moves.{reclaims, writes}

module _ (fits : List ℕ → Type 0) (joins : ℕ → List ℕ → List ℕ → Type 0) (first : ℕ → List ℕ)
    (roots links width count : ℕ) where
  pub follows_at : (cpu section : Option ℕ) (was : Known) (i l place : ℕ)
      → IsSome section
      → IsReader was
      → (words : List ℕ) × IsOn first roots was i words
      → l < links
      → place ≡ place_of roots links width i l
      → AllowsWord (IsKept fits joins first roots links width count) cpu section was place (λ n. n)
      (IsFollowed fits joins first roots links width count place was)
  follows_at cpu None was i l place is_open reads on low e = absurd (cc)
  follows_at cpu (Some at) was i l place is_open reads on low e =
      subst (λ (p : ℕ). AllowsWord (IsKept fits joins first roots links width count) cpu (Some at)
      was p (λ n. n) (IsFollowed fits joins first roots links width count p was))
      (sym e) (follows fits joins first roots links width count cpu at was i l on.0 reads on.1 low)

  pub reads_at : (cpu section : Option ℕ) (was : Known) (i k place : ℕ)
      → IsSome section
      → IsReader was
      → (words : List ℕ) × IsOn first roots was i words
      → k < width
      → place ≡ place_of roots links width i (links + k)
      → AllowsWord (IsKept fits joins first roots links width count) cpu section was place (λ n. n)
      (IsRead first roots links width place was)
  reads_at cpu None was i k place is_open reads on low e = absurd (cc)
  reads_at cpu (Some at) was i k place is_open reads on low e =
      subst (λ (p : ℕ). AllowsWord (IsKept fits joins first roots links width count) cpu (Some at)
      was p (λ n. n) (IsRead first roots links width p was))
      (sym e)
      (reads_word fits joins first roots links width count cpu at was i k on.0 reads on.1 low)

  pub writes_at : (cpu section : Option ℕ) (was : Known) (i k place x : ℕ)
      → IsKeeping was
      → i < length (nodes_in was)
      → state_at (nodes_in was) i ≡ Free
      → k < width
      → place ≡ place_of roots links width i (links + k)
      → AllowsWord (IsKept fits joins first roots links width count) cpu section was place (λ _. x)
      (λ _ now. IsWritten roots links width place was x now)
  writes_at cpu section Idle i k place x keeps bound free low e = absurd keeps
  writes_at cpu section Owner i k place x keeps bound free low e = absurd keeps
  writes_at cpu section (Reader held) i k place x keeps bound free low e = absurd keeps
  writes_at cpu section (Writer t s b) i k place x keeps bound free low e =
      subst (λ (p : ℕ). AllowsWord (IsKept fits joins first roots links width count) cpu section
      (Writer t s b) p (λ _. x) (λ _ now. IsWritten roots links width p (Writer t s b) x now))
      (sym e)
      (writes fits joins first roots links width count cpu section t i k x s b bound free low)

  pub writes_link_at : (cpu section : Option ℕ) (was : Known) (i l place x : ℕ)
      → IsKeeping was
      → i < length (nodes_in was)
      → state_at (nodes_in was) i ≡ Free
      → l < links
      → place ≡ place_of roots links width i l
      → AllowsWord (IsKept fits joins first roots links width count) cpu section was place (λ _. x)
      (λ _ now. IsLinkWritten roots links width place was x now)
  writes_link_at cpu section Idle i l place x keeps bound free low e = absurd keeps
  writes_link_at cpu section Owner i l place x keeps bound free low e = absurd keeps
  writes_link_at cpu section (Reader held) i l place x keeps bound free low e = absurd keeps
  writes_link_at cpu section (Writer t s b) i l place x keeps bound free low e =
      subst (λ (p : ℕ). AllowsWord (IsKept fits joins first roots links width count) cpu section
      (Writer t s b) p (λ _. x) (λ _ now. IsLinkWritten roots links width p (Writer t s b) x now))
      (sym e)
      (links_to fits joins first roots links width count cpu section t i l x s b (λ _. b) bound low
      (inl free))

  pub links_at : (cpu section : Option ℕ) (was : Known) (i l place x : ℕ)
      → IsKeeping was
      → i < length (nodes_in was)
      → l < links
      → state_at (nodes_in was) i ≡ Live
      → IsTarget (joins l) (node_at (nodes_in was) i).words (nodes_in was) x
      → place ≡ place_of roots links width i l
      → AllowsWord (IsKept fits joins first roots links width count) cpu section was place (λ _. x)
      (λ _ now. IsLinked roots links width place was x now)
  links_at cpu section Idle i l place x keeps bound low live target e = absurd keeps
  links_at cpu section Owner i l place x keeps bound low live target e = absurd keeps
  links_at cpu section (Reader held) i l place x keeps bound low live target e = absurd keeps
  links_at cpu section (Writer t s b) i l place x keeps bound low live target e =
      subst (λ (p : ℕ). AllowsWord (IsKept fits joins first roots links width count) cpu section
      (Writer t s b) p (λ _. x) (λ _ now. IsLinked roots links width p (Writer t s b) x now))
      (sym e)
      (links_to fits joins first roots links width count cpu section t i l x s b (λ n. n ∷ b) bound
      low (inr (live, target)))

  pub publishes_at : (cpu section : Option ℕ) (was : Known) (i l j place x : ℕ)
      → IsKeeping was
      → i < length (nodes_in was)
      → j < length (nodes_in was)
      → l < links
      → state_at (nodes_in was) i ≡ Live
      → IsReady fits joins links (nodes_in was) j
      → joins l (node_at (nodes_in was) i).words (node_at (nodes_in was) j).words
      → place ≡ place_of roots links width i l
      → x ≡ suc j
      → AllowsWord (IsKept fits joins first roots links width count) cpu section was place (λ _. x)
      (λ _ now. IsPublished roots links width place was x now)
  publishes_at cpu section Idle i l j place x keeps a b low live ready joined e is = absurd keeps
  publishes_at cpu section Owner i l j place x keeps a b low live ready joined e is = absurd keeps
  publishes_at cpu section (Reader held) i l j place x keeps a b low live ready joined e is =
      absurd keeps
  publishes_at cpu section (Writer t s c) i l j place x keeps a b low live ready joined e is =
      subst (λ (y : ℕ × ℕ). AllowsWord (IsKept fits joins first roots links width count) cpu section
      (Writer t s c) y.0 (λ _. y.1)
      (λ _ now. IsPublished roots links width y.0 (Writer t s c) y.1 now))
      (λ z. (sym e z, sym is z))
      (publishes fits joins first roots links width count cpu section t i l j s c a b low live
      ready.free ready.whole ready.led joined)

  pub marks_unlinked_at : (cpu section : Option ℕ) (was : Known) (i place : ℕ)
      → IsKeeping was
      → i < length (nodes_in was)
      → 0 < links + width
      → roots ≤ i
      → state_at (nodes_in was) i ≡ Live
      → IsUnlinked links (nodes_in was) i
      → place ≡ place_of roots links width i 0
      → AllowsWord (IsKept fits joins first roots links width count) cpu section was place (λ n. n)
      (IsMarkedUnlinked roots links width place was)
  marks_unlinked_at cpu section Idle i place keeps bound low past live unlinked e = absurd keeps
  marks_unlinked_at cpu section Owner i place keeps bound low past live unlinked e = absurd keeps
  marks_unlinked_at cpu section (Reader held) i place keeps bound low past live unlinked e =
      absurd keeps
  marks_unlinked_at cpu section (Writer t s b) i place keeps bound low past live unlinked e =
      subst (λ (p : ℕ). AllowsWord (IsKept fits joins first roots links width count) cpu section
      (Writer t s b) p (λ n. n) (IsMarkedUnlinked roots links width p (Writer t s b)))
      (sym e)
      (marks_unlinked fits joins first roots links width count cpu section t i 0 s b bound low
      past live unlinked)

  pub reclaims_at : (cpu section : Option ℕ) (was : Known) → IsKeeping was
      → AllowsNumber (IsKept fits joins first roots links width count) cpu section was
      (IsReclaimed was)
  reclaims_at cpu section Idle keeps = absurd keeps
  reclaims_at cpu section Owner keeps = absurd keeps
  reclaims_at cpu section (Reader held) keeps = absurd keeps
  reclaims_at cpu section (Writer t s b) keeps =
      reclaims fits joins first roots links width count cpu section t s b

  pub claims_at : (cpu section : Option ℕ) (was : Known) → was ≡ Owner
      → AllowsWord (IsKept fits joins first roots links width count) cpu section was 0 (λ n. n)
      (λ _ now. IsClaimed first roots links width count now)
  claims_at cpu section was is =
      subst (λ (k : Known). AllowsWord (IsKept fits joins first roots links width count) cpu section
      k 0 (λ n. n) (λ _ now. IsClaimed first roots links width count now))
      (sym is) (claims fits joins first roots links width count cpu section 0)
