-- `write_kept` meets its contract.
-- Assumes nothing.
use Rattle.translator.proofs.EndLaws.{file_within, file_room, file_long, file_left}
use Rattle.translator.proofs.ending.write_kept.Goals as goal

pub write_file-requires : goal.write_file-requires
write_file-requires c = (
  file_within c.args.kept _ _ _ _ _ c.kept-file.ensures c.requires.0 c.requires.1,
  file_room c.args.kept _ _ _ _ _ c.kept-file.ensures _ c.requires.2,
)

pub returns : goal.returns
returns c = (
  file_long c.args.kept _ _ _ _ _ c.kept-file.ensures _ c.write_file.ensures.behind,
  file_left c.args.kept _ _ _ _ _ c.kept-file.ensures _ _ c.write_file.ensures.written,
)
