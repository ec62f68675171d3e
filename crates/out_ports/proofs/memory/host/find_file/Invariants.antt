use Rattle.std.proofs.Common.{◌≡◌, drop}
use Rattle.out_ports.specs.Ports.{contents_of}
use Rattle.out_ports.specs.MemHost.{told_files}
use Rattle.out_ports.proofs.memory.host.find_file.Given as goal

-- no file so far has the name
abbrev pub invariant-loop-file : goal.invariant-loop-file
invariant-loop-file l =
    contents_of l.name (told_files l.files) ≡ contents_of l.name (told_files (drop l.file-index l.files))
