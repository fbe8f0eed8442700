use Rattle.std.proofs.Common.{◌+◌, ◌-◌, ◌*◌, length}
use Rattle.plan.specs.Links.{parts_of}
use Rattle.plan.proofs.LinkVisit.{Sofar}
use Rattle.plan.proofs.link.Uses.+visit_visit_fields.Given as goal

abbrev pub decreases-visit : goal.decreases-visit
decreases-visit l = 2 * (16 - length (parts_of l.path.now))

abbrev pub decreases-visit_fields : goal.decreases-visit_fields
decreases-visit_fields l = 2 * (16 - length (parts_of l.path.now)) + 1

abbrev pub invariant-visit_fields-loop : goal.invariant-visit_fields-loop
invariant-visit_fields-loop l = Sofar l.schemas.file.now l.schemas.read.now l.initial.path l.initial.self l.at l.fields l.path l.self l.next l.counter
