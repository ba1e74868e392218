use Rattle.rcu_map.proofs.Buckets.{bucket_inside}
use Rattle.rcu_map.proofs.Listings.{are_listed}
use Rattle.rcu_map.proofs.laws.linked_keys_are_listed.Goals as goal

pub returns : goal.returns
returns c =
    λ ours opened buckets seed key last nodes hops at some keyed goes ended history linked made.
    are_listed c.linked_keys_are_found.ensures ours opened buckets seed key last nodes hops at
    (bucket_inside buckets seed key some) keyed goes ended history linked made
