mod CallLaws
mod HitLaws
