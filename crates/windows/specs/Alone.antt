-- A window by itself.
use Rattle.std.specs.Prelude.{List, [], ◌∷◌, ℤ}
use Rattle.windows.specs.declared.Window.{Window}

-- The list that has its four numbers and no other: window 0 of that list is the window.
abbrev pub alone : Window → List ℤ
alone w = w.node ∷ w.start ∷ w.end ∷ w.share ∷ []
