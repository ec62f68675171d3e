mod OneWay
mod Reading
