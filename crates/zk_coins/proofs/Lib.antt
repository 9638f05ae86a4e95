pub mod CoinWords
