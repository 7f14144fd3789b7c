use Rattle.std.proofs.Common.{◌≡◌, ℕ, ℤ, Option, w64, sym, ap, ◌∙◌, rules, FitsSigned, to_z, of_z, option_map}
use Rattle.std.specs.Prelude.{option_and_then}
use Rattle.std.proofs.lemmas.Int.{to_z-of_z}
use Rattle.game_tables.specs.declared.code.Code.TheVariants.{InvalidArgs}
use Rattle.room_terrain.specs.Tiles.{ground_number}
use Rattle.visible_view.specs.Sights.{Sight}
use Rattle.visible_view.specs.Fields.{ground_at}
use Rattle.host_calls.specs.Desks.{Desk, argument, as_index, signed_32}
use Rattle.game_tables.specs.Codes.{code_number}
use Rattle.host_calls.specs.Replies.{ground_reply, or_code, site_code, site_wish, told}
use Rattle.host_calls.specs.inner.Wishes.{recorded}
use Rattle.host_calls.proofs.Wanting.{wanted_is}
use Rattle.host_calls.proofs.desk.Desk.reply.Goals as goal

abbrev ground_in_sight : Sight → ℤ → ℤ → ℤ → Option ℕ
ground_in_sight sight room x y = option_and_then (λ index. option_and_then (λ column. option_and_then (λ row. option_map ground_number (ground_at sight index column row)) (as_index (signed_32 y))) (as_index (signed_32 x))) (as_index (signed_32 room))

pub returns-in-Terrain : goal.returns-in-Terrain
returns-in-Terrain c =
    let desk = c.args.self.now in
    let args = c.args.args.now in
    let room : FitsSigned w64 c.argument-first.result = search rules in
    let x : FitsSigned w64 c.argument-second.result = search rules in
    let y : FitsSigned w64 c.argument-third.result = search rules in
    let fits : FitsSigned w64 c.or_code-in-Terrain.result = search rules in
    let seen = simp to_z-of_z at c.ground.ensures in
    let found : c.ground.result ≡ ground_in_sight desk.sight (argument args 0) (argument args 1) (argument args 2) =
    seen
    ∙ ap (λ (d : Desk). ground_in_sight d.sight c.argument-first.result c.argument-second.result c.argument-third.result) c.self-in-Terrain.view_is
    ∙ ap (λ (z : ℤ). ground_in_sight desk.sight z c.argument-second.result c.argument-third.result) c.argument-first.ensures
    ∙ ap (λ (z : ℤ). ground_in_sight desk.sight (argument args 0) z c.argument-third.result) c.argument-second.ensures
    ∙ ap (λ (z : ℤ). ground_in_sight desk.sight (argument args 0) (argument args 1) z) c.argument-third.ensures
    in
    let answer : to_z w64 (of_z w64 c.or_code-in-Terrain.result) ≡ ground_reply desk (argument args 0) (argument args 1) (argument args 2) =
    to_z-of_z w64 _ fits ∙ c.or_code-in-Terrain.ensures ∙ ap (or_code InvalidArgs) found
    in
    rw c.in-Terrain.is (ap (told desk c.args.pages.now) answer)

pub returns-in-CreateSite : goal.returns-in-CreateSite
returns-in-CreateSite c =
    let desk = c.args.self.now in
    let args = c.args.args.now in
    let room : FitsSigned w64 c.argument-first.result = search rules in
    let x : FitsSigned w64 c.argument-second.result = search rules in
    let y : FitsSigned w64 c.argument-third.result = search rules in
    let kind : FitsSigned w64 c.argument.result = search rules in
    let fits : FitsSigned w64 c.told-in-CreateSite.result = search rules in
    let code = simp to_z-of_z at c.create_site.ensures.code in
    let after = simp to_z-of_z at c.create_site.ensures.desk in
    let wish : site_wish desk.sight.account.player c.argument-first.result c.argument-second.result c.argument-third.result c.argument.result ≡ site_wish desk.sight.account.player (argument args 0) (argument args 1) (argument args 2) (argument args 3) =
    λ i. site_wish desk.sight.account.player (c.argument-first.ensures i) (c.argument-second.ensures i) (c.argument-third.ensures i) (c.argument.ensures i)
    in
    let is : c.create_site.result ≡ site_code desk (argument args 0) (argument args 1) (argument args 2) (argument args 3) =
    code ∙ (λ i. site_code desk (c.argument-first.ensures i) (c.argument-second.ensures i) (c.argument-third.ensures i) (c.argument.ensures i))
    in
    let answer : to_z w64 (of_z w64 c.told-in-CreateSite.result) ≡ code_number (site_code desk (argument args 0) (argument args 1) (argument args 2) (argument args 3)) =
    to_z-of_z w64 _ fits ∙ c.told-in-CreateSite.ensures ∙ ap code_number is
    in
    let then = after ∙ (λ i. recorded desk (wish i) (is i)) in
    rw c.in-CreateSite.is (
    (λ i. record { answer = answer i; desk = then i; memory = c.args.pages.now })
    ∙ sym (wanted_is desk c.args.pages.now (site_wish desk.sight.account.player (argument args 0) (argument args 1) (argument args 2) (argument args 3)) (site_code desk (argument args 0) (argument args 1) (argument args 2) (argument args 3)))
    )
