use Rattle.std.proofs.Common.{arith}
use Rattle.num_format_cldr.proofs.Places.{length-rows, row_at, name_at}
use Rattle.num_format_cldr.proofs.Facts.{entry_is_well_formed}
use Rattle.num_format_cldr.proofs.row.Goals as goal

pub bounds-rows_of_piece-place : goal.bounds-rows_of_piece-place
bounds-rows_of_piece-place c =
    omega (arith, length-rows c.rows_of_piece.result.now c.args.place c.rows_of_piece.ensures)

pub returns-clause-shown : goal.returns-clause-shown
returns-clause-shown c =
    row_at c.rows_of_piece.result.now c.args.place c.rows_of_piece.ensures _ c.requires

pub returns-clause-well_formed : goal.returns-clause-well_formed
returns-clause-well_formed c = entry_is_well_formed c.args.place c.requires

pub returns-clause-named : goal.returns-clause-named
returns-clause-named c = name_at c.args.place c.requires
