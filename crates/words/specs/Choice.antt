-- A choice by a test, and tests joined. They do what the library's `cond`, `◌&&◌` and `◌||◌` do, and are shut, so that a law about a
-- definition that is made of them can be cited by its bare name.
use Rattle.std.specs.Prelude.{Bool, cond, ◌&&◌, ◌||◌}

unfoldable pub pick : {A : Type 0} → Bool → A → A → A
pick t a b = cond t a b

infixl 35 ◌and◌
unfoldable pub ◌and◌ : Bool → Bool → Bool
s and t = s && t

infixl 30 ◌or◌
unfoldable pub ◌or◌ : Bool → Bool → Bool
s or t = s || t
