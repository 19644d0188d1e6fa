-- What a rewiring makes of its graph's net.
-- Assumes nothing.
use Rattle.graph.specs.Graph.{Net}
use Rattle.replacement.specs.Rewire.{rewired_net}
use Rattle.replacer.specs.declared.rewire.Rewiring.{Rewiring}

-- the net in which the proposal stands for the root
abbrev pub net_after : Rewiring → Net
net_after r = rewired_net r.graph.now.net r.root.0 r.proposal
