use Rattle.remote_command.proofs.session.serve_remote.Given as goal

-- the two references that are passed on
abbrev pub ghosts-serve_named : goal.ghosts-serve_named
ghosts-serve_named g a = record { source = a.source.ghost_name; sink = a.sink.ghost_name }
