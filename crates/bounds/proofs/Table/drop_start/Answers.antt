-- `bounds::Table::drop_start` meets its contract: the rows are joined, and by `start_is` that eliminates the start.
use mathlib.Core.Path.{◌∙◌, ap}
use lib.ListN.{length}
use Rattle.bounds.specs.Events.{start_node}
use Rattle.bounds.specs.Flat.{set_in}
use Rattle.bounds.specs.FlatLaws.{joined_rows-length}
use Rattle.bounds.specs.TimesHeldLaws.{start-joins, start_is}
use Rattle.bounds.proofs.Table.drop_start.Goals as goal

pub join_rows-requires : goal.join_rows-requires
join_rows-requires c =
    let a = c.args in
    let g = c.requires.stands in
    start-joins c.requires.plan a.times.now.early a.times.now.late g.times-held a.k a.self.now.weights g.room g.fit

pub returns : goal.returns
returns c =
    let a = c.args in
    let r = c.join_rows in record {
      weights_after = λ p g.
          ap (λ r. set_in (start_node a.k) r.found r.weights) r.ensures
          ∙ start_is p a.times.now.early a.times.now.late g.times-held a.k a.self.now.weights g.room g.fit g.size;
      weights_len_unchanged = ap (λ r. length r.weights) r.ensures ∙ joined_rows-length a.times.now.early a.times.now.late (start_node a.k) a.self.now.weights;
    }
