use Rattle.std.proofs.Common.{◌≡◌, List, map, take}
use Rattle.serde_json.specs.View.{items_view}
use Rattle.world_form.specs.Facts.{Player, SayEach, SaysPlayer}
use Rattle.world_form.specs.Files.{told_tokens}
use Rattle.world_text.proofs.players.read_player_list.Given as goal

abbrev pub invariant-loop-place : goal.invariant-loop-place
invariant-loop-place l = (said : List Player) × SayEach SaysPlayer (items_view (take l.place l.values)) said × (map (λ player. player.account) said ≡ l.accounts.items) × (told_tokens said ≡ l.tokens.items)
