-- The records told are within the room. Assumes nothing.
use Rattle.std.proofs.Common.{◌*◌, replicate, arith, length-take-le, sym}
use Rattle.cluster.specs.Record.{record_bytes}
use Rattle.gel.proofs.Laws.Imported.{import_told}
use Rattle.gelsheet.proofs.write_list.Goals as goal

pub overflow_mul-room : goal.overflow_mul-room
overflow_mul-room g c =
    let told = import_told c.args.sheet.now (replicate 1536 0) _ c.import_sheet-import.ensures c.in-Ok.is in
    omega (arith, told)

pub slice_bounds-room-end : goal.slice_bounds-room-end
slice_bounds-room-end g c =
    let told = import_told c.args.sheet.now (replicate 1536 0) _ c.import_sheet-import.ensures c.in-Ok.is in
    omega (arith, told, c.import_sheet-import.auto.room)

pub slice_bounds-write_all-end : goal.slice_bounds-write_all-end
slice_bounds-write_all-end g c =
    let told = import_told c.args.sheet.now (replicate 1536 0) _ c.import_sheet-import.ensures c.in-Ok.is in
    let room = c.import_sheet-import.new.room in
    sym (length-take-le (c.in-Ok.import.records * record_bytes) room (omega (arith, told, c.import_sheet-import.auto.room)))
