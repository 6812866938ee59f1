use Rattle.seat_sessions.proofs.session.serve_session.Given as goal

abbrev pub ghosts-serve_opened : goal.ghosts-serve_opened
ghosts-serve_opened g a = record { lock = a.store.now; pass = a.pass.pass }
