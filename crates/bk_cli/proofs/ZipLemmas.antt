-- Two commands of which each may have been lost.
use Rattle.std.proofs.Common.{◌≡◌, ◌∙◌, ap, ap₂, refl, subst, Option, Some, None, false, ◌||◌, option_map, IfOk, IfSome}
use Rattle.std.specs.Prelude.{Result, Ok, Err, unwrap_or}
use Rattle.std.specs.Result.{result_ok}
use Rattle.std.specs.Option.{option_zip}
use Rattle.clap.specs.Words.{App, AddsSubcommand, app_of, with_subcommand}
use Rattle.clap.specs.declared.builder.command.Command.{Command}
use Rattle.clap.specs.declared.builder.command.Command.TheViews.{out-Command}

-- both are there
pub zip_parts : {T U : Type 0} (o : Option T) (p : Option U) (x : T) (y : U) → option_zip o p ≡ Some (x, y) → (o ≡ Some x) × (p ≡ Some y)
zip_parts None p x y e = absurd (cc)
zip_parts (Some a) None x y e = absurd (cc)
zip_parts {T} {U} (Some a) (Some b) x y e = (ap (λ (o : Option (T × U)). option_map (λ q. q.0) o) e, ap (λ (o : Option (T × U)). option_map (λ q. q.1) o) e)

-- what is made of them has no global argument
pub made_local : {E : Type 0} (r : Result Command E) (x y : Command) → IfOk r (AddsSubcommand x y) → (out-Command x).has_globals ≡ false
    → (out-Command y).has_globals ≡ false → unwrap_or (option_map (λ c. (out-Command c).has_globals) (result_ok r)) false ≡ false
made_local (Ok n) x y h e f = h.globals ∙ ap₂ (λ a b. a || b) e f
made_local (Err n) x y h e f = refl

-- and has this shape
pub made_shape : {E : Type 0} (r : Result Command E) (x y : Command) (a b : App) → IfOk r (AddsSubcommand x y) → (out-Command y).has_globals ≡ false
    → app_of x ≡ a → app_of y ≡ b → IfSome (option_map app_of (result_ok r)) (λ c. c ≡ with_subcommand a b.top)
made_shape (Ok n) x y a b h f e e' = h.shape f ∙ ap₂ (λ (p q : App). with_subcommand p q.top) e e'
made_shape (Err n) x y a b h f e e' = tt

-- what is known of one that is there
pub shape_at : (o : Option Command) (x : Command) (a : App) → o ≡ Some x → IfSome (option_map app_of o) (λ c. c ≡ a) → app_of x ≡ a
shape_at o x a e h = subst (λ (p : Option Command). IfSome (option_map app_of p) (λ c. c ≡ a)) e h

pub local_at : (o : Option Command) (x : Command) → o ≡ Some x → unwrap_or (option_map (λ c. (out-Command c).has_globals) o) false ≡ false
    → (out-Command x).has_globals ≡ false
local_at o x e h = subst (λ (p : Option Command). unwrap_or (option_map (λ c. (out-Command c).has_globals) p) false ≡ false) e h
