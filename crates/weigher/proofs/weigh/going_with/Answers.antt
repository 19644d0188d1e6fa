-- `weigher::weigh::going_with` meets its contract: the root's literal and one of variable 0 reach what the root does.
-- Assumes nothing.
use Rattle.checker.specs.Marks.{marks_in}
use Rattle.weigher.proofs.Weighing.{going_counted}
use Rattle.weigher.proofs.weigh.going_with.Goals as goal

pub returns : goal.returns
returns c =
    record {
      going_with = going_counted c.args.net.now (marks_in c.args.marks.now) c.args.root.0 _
          c.plain.ensures c.held_back.ensures.counts_held;
      marks_unchanged = c.held_back.ensures.marks_unchanged;
    }
