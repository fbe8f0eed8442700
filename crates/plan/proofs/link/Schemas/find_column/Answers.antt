use Rattle.std.proofs.Common.{length, ◌+◌, ◌<◌, true, false, rules}
use Rattle.std.specs.Option.{MatchOption}
use Rattle.std.specs.List.{AllWithin, HoldsAt}
use Rattle.schema.specs.Answering.{seen_columns}
use Rattle.plan.specs.Links.{names, headings_of}
use Rattle.plan.proofs.LinkFind.{highest_from, highest_means, highest-one, Tells}
use Rattle.plan.proofs.link.Schemas.find_column.Goals as goal

pub returns : goal.returns
returns c =
    let file = c.args.self.now.file.now in
    let key = names (headings_of c.args.self.now.read.now c.args.path.now) in
    let cols = c.columns.result.now in
    let found : MatchOption c.rposition.result (AllWithin (Tells file cols c.columns.ensures.columns key false) cols 0 (length cols)) (λ n. (n < length cols) × HoldsAt (Tells file cols c.columns.ensures.columns key true) cols n × AllWithin (Tells file cols c.columns.ensures.columns key false) cols (n + 1) (length cols)) = search rules in
    let is = highest_from file cols c.columns.ensures.columns key c.rposition.result found in
    record { value = highest-one (seen_columns file) key _ _ is (highest_means (seen_columns file) key); highest_with_path = is }
