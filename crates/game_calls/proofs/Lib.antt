pub mod GameCalls
