use Rattle.install_notes.proofs.telling.install_noting.Given as goal

abbrev pub ghosts-install_at : goal.ghosts-install_at
ghosts-install_at g a = record { home = a.at.sink.ghost_name }
